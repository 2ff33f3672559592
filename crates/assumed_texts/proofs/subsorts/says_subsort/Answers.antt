use Rattle.ml_image.proofs.ImageLaws.{none_some}
use Rattle.ml_image.specs.OwnAxioms.{SaysSubsort}
use Rattle.assumed_texts.specs.Kinds.{IsSubsortAxiom}
use Rattle.assumed_texts.proofs.Deciding.{decides-no, decides-same}
use Rattle.assumed_texts.proofs.SubsortLaws.{only-subsort, subsort-unique}
use Rattle.assumed_texts.proofs.subsorts.says_subsort.Goals as goal

pub returns-in_default-clause-answer : goal.returns-in_default-clause-answer
returns-in_default-clause-answer c =
    decides-no c.args.sig.now c.args.names.now c.args.names.now (IsSubsortAxiom c.args.sig.now)
    c.args.pat.now
    (λ (s, (d, e, says), is). none_some (d, e) (c.in_default.ensures.only d e (s, says, is)))

pub returns-clause-answer : goal.returns-clause-answer
returns-clause-answer c =
    decides-same c.args.sig.now c.args.names.now c.inj_total.new.names
    (SaysSubsort c.args.sig.now c.in-Some.from.0 c.in-Some.to.0)
    (IsSubsortAxiom c.args.sig.now) c.args.pat.now c.in_ok-image.image c.same.result
    c.in_ok-image.ensures.names
    (λ s h. (c.in-Some.from.0, c.in-Some.to.0, h))
    (subsort-unique c.args.sig.now c.in-Some.from.0 c.in-Some.to.0)
    (only-subsort c.args.sig.now c.args.names.now c.in-Some.from.0 c.in-Some.to.0 c.args.pat.now
    c.in-Some.ensures.only)
    c.in_ok-image.ensures.image c.same.ensures
