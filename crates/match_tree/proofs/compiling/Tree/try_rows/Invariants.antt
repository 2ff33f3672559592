use Rattle.std.proofs.Common.{◌≡◌}
use Rattle.pat_matrix.specs.MatchTrees.{matching_rows, rows_from}
use Rattle.pat_matrix.specs.MatrixView.{rows_of, order_of}
use Rattle.match_tree.proofs.compiling.Tree.try_rows.Given as goal

abbrev pub invariant-loop-i : goal.invariant-loop-i
invariant-loop-i g l =
    matching_rows (order_of l.self.matrix) (rows_from l.from (rows_of l.self.matrix)) l.subjects
    ≡ matching_rows (order_of l.self.matrix) (rows_from l.i (rows_of l.self.matrix)) l.subjects
