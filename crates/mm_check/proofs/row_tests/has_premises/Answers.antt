use Rattle.std.proofs.Common.{◌<◌, ◌∙◌, sym, ap, length, arith}
use Rattle.std.proofs.lemmas.Bool.{both_ways, false≢true}
use Rattle.mm_check.specs.Stated.{words}
use Rattle.mm_check.proofs.RowLaws.{premise_at}
use Rattle.mm_check.proofs.row_tests.has_premises.Goals as goal

pub returns-then-not-same_words : goal.returns-then-not-same_words
returns-then-not-same_words c = (
  λ never. absurd (false≢true never),
  λ same.
      let within : c.loop-i.i < length c.args.hyps.now = omega arith in
      let here = premise_at c.args.premises.now c.args.hyps.now c.loop-i.i
      c.index-premises-i.result _ c.loop-i-test.true within same in
      absurd (both_ways c.same_words.result c.if-not-same_words.true (c.same_words.ensures.1
      (ap words (c.deref.ensures.value ∙ ap (λ v. v.items) c.index-premises-i.is) ∙ here
      ∙ sym c.in_ok-expected.ensures ∙ sym (ap words c.deref-in-loop-i.ensures.value)))),
)
