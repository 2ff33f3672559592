use Rattle.pat_matrix.proofs.Loops.{collapsed_rows-next}
use Rattle.pat_matrix.proofs.matrix.collapsed_rows.Goals as goal

pub loop-row-preserved : goal.loop-row-preserved
loop-row-preserved c =
    collapsed_rows-next c.args.rows.now _ _ c.loop-row.row-index c.row-item.result _
    c.loop-row-test.true c.row-item.is c.loop-row.invariant c.in_ok-push.ensures.items
    c.in_ok-all_collapsed.ensures
