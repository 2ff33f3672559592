-- The guards of equations of the last resort (K framework, attribute `owise`).
use Rattle.std.specs.Prelude.{◌≡◌, ◌≢◌, ◌↔◌, ◌<◌, ◌+◌, ◌^◌, ℕ, List, [], ◌∷◌, length, Contains, All}
use Rattle.std.specs.Prelude.{Some, None, slice_get}
use Rattle.rule_core.specs.Rules.{Equation, Guard}
use Rattle.rule_core.specs.AcSymbols.{IsAcFree}
use Rattle.rule_core.specs.WellSorted.{AreDifferent}
use Rattle.rule_core.specs.declared.signature.Signature.{Signature}

-- The guard repeats one of these equations, which has no guards, and lists each of its variables
-- once.
pub record IsGuardAmong (others : List Equation) (g : Guard) : Type 0 where
  pub equation : Equation
  pub there : slice_get others g.equation ≡ Some equation
  pub ordinary : equation.last_resort ≡ None
  pub each : (x : ℕ) → Contains g.order x ↔ (x < length equation.variables)
  pub different : AreDifferent g.order

-- the number after those of the guards' variables, which are numbered from k
abbrev pub after_guards : ℕ → List Guard → ℕ
after_guards k [] = k
after_guards k (g ∷ gs) = after_guards (k + length g.order) gs

-- These are the guards of an equation of the last resort, which has parameters. Each repeats one of
-- the equations that come before it. The parameters, the variables and those of the guards can be
-- numbered with 32 bits. No constructor is associative, commutative or idempotent, or has a unit.
pub record AreGuards (sig : Signature) (others : List Equation) (e : Equation) (gs : List Guard) :
    Type 0 where
  pub parameters : e.parameters ≢ 0
  pub each : All (IsGuardAmong others) gs
  pub few : after_guards (e.parameters + length e.variables) gs < 2 ^ 32
  pub no_ac : IsAcFree sig
