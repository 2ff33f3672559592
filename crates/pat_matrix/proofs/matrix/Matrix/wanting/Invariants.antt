use Rattle.std.proofs.Common.{◌≡◌, take}
use Rattle.pat_matrix.specs.HeadView.{head_of}
use Rattle.pat_matrix.specs.Rows.{specialized}
use Rattle.pat_matrix.specs.MatrixView.{rows_at, order_of}
use Rattle.pat_matrix.proofs.matrix.Matrix.wanting.Given as goal

abbrev pub invariant-loop-no : goal.invariant-loop-no
invariant-loop-no l =
    rows_at l.self.rows.value.items l.left.items
    ≡ specialized (order_of l.self) l.position (head_of l.head)
    (rows_at l.self.rows.value.items (take l.no-index l.self.left.items))
