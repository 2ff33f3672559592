use Rattle.std.proofs.Common.{◌≡◌}
use Rattle.kore_text.specs.Table.{exactly}
use Rattle.kore_text.specs.Stacks.{stack}
use Rattle.kore_text.proofs.expected.Expected.exactly.Given as goal

abbrev pub invariant-loop-i : goal.invariant-loop-i
invariant-loop-i l = stack l.self ≡ exactly l.symbol l.fn.close l.i (stack l.fn.self)
