use Rattle.std.proofs.Common.{◌∙◌, ◌++◌, ◌+◌, ap, take, drop}
use Rattle.pat_matrix.specs.Rows.{below_from}
use Rattle.pat_matrix.specs.MatrixView.{positions}
use Rattle.pat_matrix.proofs.Loops.{three_parts, rest_whole}
use Rattle.pat_matrix.proofs.matrix.Matrix.replaced.Goals as goal

pub returns : goal.returns
returns c =
    three_parts c.args.self.now.columns.items c.in_ok-columns.columns.items
    c.add_columns.new.columns.items c.add_below.new.columns.items _ c.args.col _
    c.in_ok-columns.ensures.items
    (c.in_ok-add_columns.ensures
    ∙ ap (λ cs. positions c.in_ok-columns.columns.items ++ positions (take c.args.col cs))
    c.deref.ensures.value)
    (c.in_ok-add_below.ensures
    ∙ ap (λ p. positions c.add_columns.new.columns.items ++ below_from p 0 c.args.count)
    c.position_or_empty.ensures)
    (c.in_ok-add_columns-2.ensures
    ∙ ap (λ cs. positions c.add_below.new.columns.items ++ positions cs)
    (rest_whole c.deref-2.result.now (c.args.col + 1))
    ∙ ap (λ cs. positions c.add_below.new.columns.items ++ positions (drop (c.args.col + 1) cs))
    c.deref-2.ensures.value)
