use Rattle.std.proofs.Common.{arith, ◌-◌, rules, length, ◌<◌}
use Rattle.mm_frame.proofs.Counting.{times-more}
use Rattle.mm_frame.proofs.counts.Counts.remove.Goals as goal

pub loop-n-preserved : goal.loop-n-preserved
loop-n-preserved c = λ n.
    let within : c.loop-n.n-index < length c.args.symbols.now = search rules in
    omega (
      arith,
      times-more n c.loop-n.n-index c.args.symbols.now within,
      c.loop-n.invariant n,
      c.remove_one.ensures n,
    )
