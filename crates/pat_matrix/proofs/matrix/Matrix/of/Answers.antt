use Rattle.std.proofs.Common.{◌∙◌, ap, length}
use Rattle.pat_matrix.specs.Rows.{collapsed_rows}
use Rattle.pat_matrix.specs.MatrixView.{plain_rows, lent_rows}
use Rattle.pat_matrix.proofs.Loops.{rows_at-all, length-collapsed_rows}
use Rattle.pat_matrix.proofs.matrix.Matrix.of.Goals as goal

pub returns-clause-rows : goal.returns-clause-rows
returns-clause-rows c =
    rows_at-all _ (collapsed_rows (lent_rows c.args.rows.now)) _ (length c.args.rows.now)
    (ap (λ v. plain_rows v.items) c.in_ok-rows.ensures.ok ∙ c.in_ok-collapsed_rows.ensures)
    c.in_ok-left.ensures (length-collapsed_rows c.args.rows.now)
