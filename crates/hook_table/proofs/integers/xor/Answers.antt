use Rattle.std.proofs.Common.{Ok, ap}
use Rattle.hook_table.proofs.Bits.{bitwise_xor-is}
use Rattle.hook_table.proofs.integers.xor.Goals as goal

pub returns : goal.returns
returns c = ap Ok (bitwise_xor-is c.args.x c.args.y c.ranges.x c.ranges.y)
