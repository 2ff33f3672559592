use Rattle.hook_table.proofs.Ranges.{far-shift, near-shift}
use Rattle.hook_table.proofs.integers.halved.Goals as goal

pub returns-then-times-gt127 : goal.returns-then-times-gt127
returns-then-times-gt127 c = far-shift c.args.x c.args.times c.ranges.x c.if-times-gt127.true

pub returns : goal.returns
returns c = near-shift c.args.x c.args.times c.ranges.x
