use Rattle.std.proofs.Common.{◌≡◌, take, reverse}
use Rattle.kore_text.specs.Table.{can_end}
use Rattle.kore_text.specs.Stacks.{stack}
use Rattle.kore_text.proofs.expected.Expected.can_end.Given as goal

abbrev pub invariant-loop-i : goal.invariant-loop-i
invariant-loop-i l = can_end (reverse (take l.i l.self.symbols.items)) ≡ can_end (stack l.self)
