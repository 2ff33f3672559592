use Rattle.drill_gen.proofs.Lines.{line-pushed}
use Rattle.drill_gen.proofs.text.push_lines.Goals as goal

pub loop-one-preserved : goal.loop-one-preserved
loop-one-preserved c =
    line-pushed c.args.all.now c.loop-one.one-index _ c.args.text.now.items c.loop-one.text.items
    c.push_line.new.text.items c.loop-one-test.true c.loop-one.invariant
    c.in_ok-push_line.ensures
