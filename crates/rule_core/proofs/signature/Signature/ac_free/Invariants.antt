use Rattle.std.proofs.Common.{ℕ, ◌<◌}
use Rattle.rule_core.specs.AcSymbols.{IsAcConstructor}
use Rattle.rule_core.proofs.signature.Signature.ac_free.Given as goal

abbrev pub invariant-loop-number : goal.invariant-loop-number
invariant-loop-number l = (f : ℕ) → f < l.number → IsAcConstructor l.self f → ⊥
