use Rattle.std.proofs.Common.{List, ap, sym, ◌∙◌, map}
use Rattle.term_core.specs.RulePatterns.{sort_numbers}
use Rattle.term_core.specs.declared.ids.SortId.{SortId}
use Rattle.ml_image.specs.OwnAxioms.{sort_numbered}
use Rattle.ml_image.proofs.ClosingLaws.{named-next, no_parameter}
use Rattle.ml_image.proofs.closing.named_sorts.Goals as goal

pub unreachable-requires : goal.unreachable-requires
unreachable-requires c =
    no_parameter c.args.refs.now c.requires.0 c.loop-of.of-index _ _ c.requires.1
    c.loop-of-test.true c.in-Param.is

pub loop-of-preserved : goal.loop-of-preserved
loop-of-preserved c =
    named-next c.args.refs.now c.loop-of.of-index c.in-Sort.sort _ c.loop-of.sorts.items
    c.loop-of-test.true c.in-Sort.is c.loop-of.invariant
    ∙ ap (λ (ss : List SortId). map sort_numbered (sort_numbers ss))
    (sym c.in_ok-push-in-Sort.ensures.items)
