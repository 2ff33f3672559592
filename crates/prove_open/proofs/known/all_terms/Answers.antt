use Rattle.prove_open.proofs.KnownLaws.{all_the_terms, one_more_term}
use Rattle.prove_open.proofs.known.all_terms.Goals as goal

pub loop-part-preserved : goal.loop-part-preserved
loop-part-preserved c = λ ps are.
    one_more_term ps c.args.parts.now c.loop-part.part-index c.part-item.result c.in-Term.term
    c.in_ok-share-in-Term.field-0 c.loop-part.terms.items c.push.new.self.items are
    c.loop-part-test.true c.part-item.is c.in-Term.is c.in_ok-share-in-Term.ensures.same
    c.in_ok-push-in-Term.ensures.items (c.loop-part.invariant ps are)

pub returns : goal.returns
returns c = λ ps are.
    all_the_terms ps c.args.parts.now c.loop-part.part-index c.loop-part.terms.items are
    c.loop-part-test.false (c.loop-part.invariant ps are)
