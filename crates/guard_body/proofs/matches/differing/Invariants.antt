use Rattle.std.proofs.Common.{◌<◌, ℕ}
use Rattle.guard_body.specs.Arguments.{AreTwoFor}
use Rattle.guard_body.proofs.matches.differing.Given as goal

abbrev pub invariant-loop-x : goal.invariant-loop-x
invariant-loop-x l = (x : ℕ) → x < l.x → AreTwoFor x l.theta l.sigma → ⊥
