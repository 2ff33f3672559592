use Rattle.std.proofs.Common.{◌<◌, arith}
use Rattle.hook_table.proofs.Numbers.{number-below}
use Rattle.hook_table.proofs.calls.apply.Goals as goal

pub unreachable-requires : goal.unreachable-requires
unreachable-requires g c =
    let low : c.args.hook.0 < 31 = number-below c.args.hook.0 _ c.requires in
    omega arith
