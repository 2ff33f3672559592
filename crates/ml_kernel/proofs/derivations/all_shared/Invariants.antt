use Rattle.std.proofs.Common.{◌≡◌, take}
use Rattle.ml_kernel.proofs.derivations.all_shared.Given as goal

abbrev pub invariant-loop-pattern : goal.invariant-loop-pattern
invariant-loop-pattern l = l.shared.items ≡ take l.pattern-index l.patterns
