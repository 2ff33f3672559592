use Rattle.std.proofs.Common.{Some, ap, sym, ◌∙◌}
use Rattle.std.proofs.lemmas.List.{get_or_default}
use Rattle.ml_pat.specs.Patterns.{Pattern}
use Rattle.ml_image.proofs.ImageLaws.{gained_twice}
use Rattle.ml_image.proofs.LoopLaws.{at_sorts-next, sort-item}
use Rattle.ml_image.proofs.images.at_sorts.Goals as goal

pub sort_number-requires : goal.sort_number-requires
sort_number-requires c =
    sort-item c.args.sig.now c.args.sorts.now c.loop-sort.sort-index _ c.requires
    c.loop-sort-test.true (get_or_default _ _ _ _ c.loop-sort-test.true)

pub returns-in_err-number-clause-names : goal.returns-in_err-number-clause-names
returns-in_err-number-clause-names c =
    gained_twice _ _ _ _ c.loop-sort.invariant.1 c.sort_number.ensures.names

pub returns-in_err-made-clause-names : goal.returns-in_err-made-clause-names
returns-in_err-made-clause-names c =
    gained_twice _ _ _ _ c.loop-sort.invariant.1 c.sort_number.ensures.names

pub loop-sort-preserved : goal.loop-sort-preserved
loop-sort-preserved c = (
  at_sorts-next c.args.sig.now c.loop-sort.names _ _ c.args.sorts.now c.loop-sort.sort-index _ _ _
      c.sort_number.ensures.names c.loop-sort-test.true
      (get_or_default _ _ _ _ c.loop-sort-test.true) c.loop-sort.invariant.0
      c.in_ok-number.ensures.number ∙ ap (λ (p : Pattern). Some p) (sym c.in_ok-made.ensures),
  gained_twice _ _ _ _ c.loop-sort.invariant.1 c.sort_number.ensures.names,
)
