use Rattle.std.proofs.Common.{◌≡◌, ◌++◌, ◌*◌, ◌+◌, take}
use Rattle.term_core.specs.RulePatterns.{plain_pattern}
use Rattle.term_core.specs.PatternLists.{plain_patterns}
use Rattle.term_core.proofs.PatternLaws.{depth, depths}
use Rattle.pat_matrix.specs.Positions.{all_asked}
use Rattle.pat_matrix.specs.MatrixView.{positions}
use Rattle.pat_matrix.proofs.asked.+asked.Given as goal

abbrev pub decreases-add_asked : goal.decreases-add_asked
decreases-add_asked l = 2 * depth (plain_pattern l.pat.now)

abbrev pub decreases-add_all_asked : goal.decreases-add_all_asked
decreases-add_all_asked l = 2 * depths (plain_patterns l.pats.now) + 1

abbrev pub invariant-add_all_asked-loop-i : goal.invariant-add_all_asked-loop-i
invariant-add_all_asked-loop-i l =
    positions l.asked.items
    ≡ positions l.initial.asked.items
    ++ all_asked l.position 0 (plain_patterns (take l.i l.pats))
