use Rattle.std.proofs.Common.{◌≡◌, ◌++◌, drop}
use Rattle.kore_text.specs.Stacks.{stack}
use Rattle.kore_text.proofs.expected.Expected.put.Given as goal

abbrev pub invariant-loop-i : goal.invariant-loop-i
invariant-loop-i l = stack l.self ≡ drop l.i l.symbols ++ stack l.fn.self
