use Rattle.mm_check.proofs.HeaderTexts.{statements_next}
use Rattle.mm_check.proofs.rows.add_statements.Goals as goal

pub loop-row-preserved : goal.loop-row-preserved
loop-row-preserved c =
    statements_next c.args.rows.now c.loop-row.numbers c.add_statement.new.numbers
    c.loop-row.row-index _ c.requires.rows c.loop-row-test.true c.loop-row.invariant
    c.in_ok-add_statement.ensures
