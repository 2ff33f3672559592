use Rattle.std.proofs.Common.{◌≤◌, arith}
use Rattle.term_core.specs.RulePatterns.{plain_pattern}
use Rattle.term_core.specs.PatternLists.{plain_patterns}
use Rattle.term_core.proofs.PatternLaws.{depth, depths, depth_of-item}
use Rattle.ml_image.specs.PartNames.{part_names}
use Rattle.refute.proofs.ChosenLists.{chosen_all, no_call_item}
use Rattle.refute.proofs.choosing.+chosen.Goals as goal

pub all_chosen-chosen-requires : goal.all_chosen-chosen-requires
all_chosen-chosen-requires t c =
    let high : depth (plain_pattern c.index-args-i.result) ≤ depths (plain_patterns c.args.args.now) =
    depth_of-item c.args.args.now c.loop-i.i c.index-args-i.result c.index-args-i.is
    c.loop-i-test.true in (
      omega (arith, high, c.decreases),
      no_call_item c.args.args.now c.loop-i.i c.index-args-i.result c.requires c.loop-i-test.true
          c.index-args-i.is,
    )

pub all_chosen-returns : goal.all_chosen-returns
all_chosen-returns t c =
    chosen_all c.args.x (part_names c.args.names.now) c.args.args.now c.loop-i.done.items
    c.loop-i.i (omega (arith, c.loop-i-test.false, c.loop-i.auto.i-end)) c.loop-i.invariant
