use Rattle.std.proofs.Common.{◌≡◌, ◌++◌, take}
use Rattle.pat_matrix.specs.MatrixView.{positions}
use Rattle.pat_matrix.proofs.columns.add_columns.Given as goal

abbrev pub invariant-loop-column : goal.invariant-loop-column
invariant-loop-column l =
    positions l.columns.items
    ≡ positions l.initial.columns.items ++ positions (take l.column-index l.more)
