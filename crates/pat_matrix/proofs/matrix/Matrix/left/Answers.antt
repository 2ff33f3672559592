use Rattle.std.proofs.Common.{◌∙◌, sym}
use Rattle.pat_matrix.proofs.Loops.{numbers-rows_at}
use Rattle.pat_matrix.proofs.matrix.Matrix.left.Goals as goal

pub returns : goal.returns
returns c = c.deref.ensures.value ∙ sym (numbers-rows_at c.args.self.now.rows.value.items _)
