use Rattle.hook_table.proofs.Ranges.{one-shift}
use Rattle.hook_table.proofs.integers.power_of_two.Goals as goal

pub returns : goal.returns
returns c = one-shift c.args.exponent c.requires
