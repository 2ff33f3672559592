use Rattle.std.proofs.Common.{◌≡◌, take}
use Rattle.pat_matrix.specs.Rows.{others}
use Rattle.pat_matrix.specs.MatrixView.{rows_at}
use Rattle.pat_matrix.proofs.matrix.Matrix.asking_nothing.Given as goal

abbrev pub invariant-loop-no : goal.invariant-loop-no
invariant-loop-no l =
    rows_at l.self.rows.value.items l.left.items
    ≡ others l.position (rows_at l.self.rows.value.items (take l.no-index l.self.left.items))
