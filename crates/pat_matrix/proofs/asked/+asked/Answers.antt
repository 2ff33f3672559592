use Rattle.std.proofs.Common.{◌≤◌, ◌∙◌, arith}
use Rattle.term_core.specs.RulePatterns.{plain_pattern}
use Rattle.term_core.specs.PatternLists.{plain_patterns}
use Rattle.term_core.proofs.PatternLaws.{depth, depths, depth_of-item}
use Rattle.pat_matrix.proofs.AskedLoops.{asked-on}
use Rattle.pat_matrix.proofs.asked.+asked.Goals as goal

pub add_all_asked-add_asked-requires : goal.add_all_asked-add_asked-requires
add_all_asked-add_asked-requires t c =
    let low : depth (plain_pattern c.index-pats-i.result) ≤ depths
    (plain_patterns c.args.pats.now) =
    depth_of-item _ _ _ c.index-pats-i.is c.loop-i-test.true in
    (omega arith, tt)

pub add_all_asked-loop-i-preserved : goal.add_all_asked-loop-i-preserved
add_all_asked-loop-i-preserved t c =
    asked-on c.args.position.now c.deref.result.now c.args.pats.now c.loop-i.i
    c.index-pats-i.result _ _ _ c.loop-i-test.true c.index-pats-i.is
    (c.deref.ensures.value ∙ c.in_ok-child.ensures) c.in_ok-add_asked.ensures c.loop-i.invariant
