use Rattle.std.proofs.Common.{arith}
use Rattle.mm_frame.proofs.Splits.{less-halves, halves-after, halves-within}
use Rattle.mm_frame.proofs.tree.split_between.Goals as goal

pub loop-low-preserved : goal.loop-low-preserved
loop-low-preserved c =
    let was = c.loop-low.invariant in
    record {
      less = less-halves c.loop-low.low c.loop-low.high was.less c.loop-low-test.true;
      some = omega (arith, was.some);
      after = halves-after c.args.before c.loop-low.low c.loop-low.unit was.after;
      within = halves-within c.loop-low.high c.loop-low.unit c.args.from was.within;
    }
