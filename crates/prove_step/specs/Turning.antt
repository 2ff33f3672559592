-- Equalities by which a side of a step is replaced.
use Rattle.std.specs.Prelude.{◌≡◌, [], ◌∷◌, Option, Some, None, IfSome}
use Rattle.ml_pat.specs.Patterns.{Pattern, imp, equal}
use Rattle.ml_kernel.specs.Lemmas.{HaveNoVariables}
use Rattle.ml_kernel.specs.Theorems.{Theorem}
use Rattle.ml_derived.specs.Scopes.{Scope, AreWithin, IsStatedIn, IsWithin}
use Rattle.prove_term.specs.Contexts.{Context, HasContext}
use Rattle.prove_step.specs.SideLemmas.{step_of}
use Rattle.prove_step.specs.declared.side_lemmas.Side.{Side}

-- the equality says that p equals q; if there is none, q is p
abbrev pub Turns : Option Theorem → Pattern → Pattern → Type 0
Turns None p q = p ≡ q
Turns (Some e) p q = e.conclusion ≡ equal p q

-- The step has `before` at the side, and the equality turns it into `after`. No object variable
-- occurs in these or in the other side.
pub record CanTurn (side : Side) (e : Option Theorem) (step : Theorem) : Type 0 where
  pub before : Pattern
  pub after : Pattern
  pub other : Pattern
  pub turns : Turns e before after
  pub says : step.conclusion ≡ step_of side before other
  pub closed : HaveNoVariables (before ∷ after ∷ other ∷ [])

-- the theorem says the step with q at the side instead of p
abbrev pub IsTurned : Side → Option Theorem → Theorem → Theorem → Type 0
IsTurned side e step t =
    (p q r : Pattern) → Turns e p q → step.conclusion ≡ step_of side p r
    → t.conclusion ≡ step_of side q r

-- a scope that has the context, the equality and the step has the theorem
abbrev pub StaysTurned : Context → Option Theorem → Theorem → Theorem → Type 0
StaysTurned cx e step t =
    (s : Scope) → HasContext s cx → IfSome e (IsWithin s) → IsWithin s step → IsWithin s t

-- the same for a scope in which the lemma was stated
abbrev pub StaysCiting : Theorem → Theorem → Theorem → Theorem → Type 0
StaysCiting lemma e step t =
    (s : Scope) → IsStatedIn s lemma.hypotheses lemma.conclusion → AreWithin s (e ∷ step ∷ [])
    → IsWithin s t

-- the theorem is the equality if the hypothesis is an equality, and the step if the hypothesis is
-- an implication
pub record IsProofFor (e step : Theorem) (p : Pattern) (t : Theorem) : Type 0 where
  pub equality : (q r : Pattern) → p ≡ equal q r → t ≡ e
  pub implication : (q r : Pattern) → p ≡ imp q r → t ≡ step
