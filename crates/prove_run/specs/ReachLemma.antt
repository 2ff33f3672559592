-- The lemma by which a run goes one step further.
use Rattle.std.specs.Prelude.{◌≡◌, ◌⊎◌, [], ◌∷◌, All}
use Rattle.ml_pat.specs.Patterns.{Pattern, imp, next, ev, meta}
use Rattle.ml_kernel.specs.Theorems.{Theorem}
use Rattle.ml_derived.specs.Scopes.{Scope, IsStatedIn, IsWithin, AreWithin}

-- what the run has reached, and the step from there
abbrev pub sofar_form : Pattern
sofar_form = imp (meta 0) (ev (meta 1))

abbrev pub step_form : Pattern
step_form = imp (meta 1) (next (meta 2))

abbrev pub IsReachHypothesis : Pattern → Type 0
IsReachHypothesis p = (p ≡ sofar_form) ⊎ (p ≡ step_form)

-- the lemma says that the run reaches the result of the step, and assumes at most these two
-- patterns
pub record IsReachLemma (lemma : Theorem) : Type 0 where
  pub says : lemma.conclusion ≡ imp (meta 0) (ev (meta 2))
  pub hypotheses : All IsReachHypothesis lemma.hypotheses

-- the theorem t proves the hypothesis p of the lemma
abbrev pub ProvesHypothesis : Theorem → Theorem → Pattern → Theorem → Type 0
ProvesHypothesis sofar step p t = ((p ≡ sofar_form) × (t ≡ sofar)) ⊎ ((p ≡ step_form) × (t ≡ step))

-- a scope that has the lemma as stated, the theorem so far and the theorem of the step has the
-- theorem t
abbrev pub CitesReachLemma : Theorem → Theorem → Theorem → Theorem → Type 0
CitesReachLemma lemma sofar step t =
    (s : Scope) → IsStatedIn s lemma.hypotheses lemma.conclusion → AreWithin s (sofar ∷ step ∷ [])
    → IsWithin s t
