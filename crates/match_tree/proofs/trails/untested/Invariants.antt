use Rattle.std.proofs.Common.{◌≡◌, drop, map}
use Rattle.term_core.specs.RulePatterns.{plain_pattern}
use Rattle.pat_matrix.specs.MatrixView.{positions}
use Rattle.pat_matrix.specs.Positions.{asked_positions}
use Rattle.match_tree.specs.Trails.{first_untested}
use Rattle.match_tree.specs.TrailView.{plain_trail}
use Rattle.match_tree.proofs.trails.untested.Given as goal

abbrev pub invariant-loop-position : goal.invariant-loop-position
invariant-loop-position l =
    first_untested (plain_trail l.trail) (positions (drop l.position-index l.position-items))
    ≡ first_untested (plain_trail l.trail) (asked_positions (map plain_pattern l.row))
