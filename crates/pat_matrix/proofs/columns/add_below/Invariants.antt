use Rattle.std.proofs.Common.{◌≡◌, ◌++◌}
use Rattle.pat_matrix.specs.Rows.{below_from}
use Rattle.pat_matrix.specs.MatrixView.{positions}
use Rattle.pat_matrix.proofs.columns.add_below.Given as goal

abbrev pub invariant-loop-child : goal.invariant-loop-child
invariant-loop-child l =
    positions l.columns.items
    ≡ positions l.initial.columns.items ++ below_from l.position 0 l.child
