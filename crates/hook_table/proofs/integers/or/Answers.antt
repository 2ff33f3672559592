use Rattle.std.proofs.Common.{Ok, ap}
use Rattle.hook_table.proofs.Bits.{bitwise_or-is}
use Rattle.hook_table.proofs.integers.or.Goals as goal

pub returns : goal.returns
returns c = ap Ok (bitwise_or-is c.args.x c.args.y c.ranges.x c.ranges.y)
