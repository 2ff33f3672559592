use Rattle.std.proofs.Common.{◌∙◌, ◌++◌, ap, sym}
use Rattle.pat_matrix.specs.MatrixView.{positions}
use Rattle.pat_matrix.proofs.Loops.{pushed_last, below_from-more}
use Rattle.pat_matrix.proofs.columns.add_below.Goals as goal

pub loop-child-preserved : goal.loop-child-preserved
loop-child-preserved c =
    pushed_last _ _ _ _ _ _ c.in_ok-push.ensures.items c.in_ok-child_position.ensures
    c.loop-child.invariant
    ∙ ap (λ ps. positions c.args.columns.now.items ++ ps)
    (sym (below_from-more c.args.position.now c.loop-child.child))
