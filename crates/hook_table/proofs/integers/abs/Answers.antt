use Rattle.std.proofs.Common.{pos}
use Rattle.std.specs.Prelude.{unsigned_abs}
use Rattle.hook_table.proofs.Ranges.{checked_abs-is}
use Rattle.hook_table.proofs.integers.abs.Goals as goal

pub returns : goal.returns
returns c =
    c.ranged.ensures (pos (unsigned_abs c.args.x))
    (checked_abs-is _ c.args.x c.ranges.x c.checked_abs.ensures)
