use Rattle.std.proofs.Common.{◌≡◌, take}
use Rattle.pat_matrix.specs.Rows.{collapsed_rows}
use Rattle.pat_matrix.specs.MatrixView.{plain_rows, lent_rows}
use Rattle.pat_matrix.proofs.matrix.collapsed_rows.Given as goal

abbrev pub invariant-loop-row : goal.invariant-loop-row
invariant-loop-row l =
    plain_rows l.done.items ≡ collapsed_rows (lent_rows (take l.row-index l.rows))
