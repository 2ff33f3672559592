use Rattle.std.proofs.Common.{◌≡◌, map, drop}
use Rattle.term_core.specs.RulePatterns.{plain_pattern}
use Rattle.pat_matrix.specs.Positions.{asked, row_asks}
use Rattle.pat_matrix.proofs.cells.asked_at.Given as goal

abbrev pub invariant-loop-step : goal.invariant-loop-step
invariant-loop-step l =
    asked (plain_pattern l.pat) (drop l.step-index l.way)
    ≡ row_asks (map plain_pattern l.row) l.position
