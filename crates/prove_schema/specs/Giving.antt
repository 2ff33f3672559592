-- Proofs of the hypotheses of a schema.
use Rattle.std.specs.Prelude.{◌≡◌, ◌⊎◌, ℕ, List, All, Contains, Some, slice_get}
use Rattle.std.specs.List.{AllZip}
use Rattle.ml_pat.specs.Patterns.{Pattern, not}
use Rattle.ml_kernel.specs.Lemmas.{instance}
use Rattle.ml_kernel.specs.Theorems.{Theorem}
use Rattle.prove_schema.specs.Using.{AreFacts, IsProved, IsLastButCondition}

-- each of the hypotheses is proved by `facts` or `others`
abbrev pub CanProve : List Pattern → List Theorem → List Theorem → Type 0
CanProve hypotheses facts others =
    (qs : List Pattern) × (ns : List ℕ) × AreFacts qs ns facts
    × All (IsProved qs ns others) hypotheses

-- the theorem is one of those given, and says the hypothesis at the patterns qs
pub record IsGiven (facts others : List Theorem) (h : Pattern) (t : Theorem) : Type 0 where
  pub given : Contains facts t ⊎ Contains others t
  pub says : (qs : List Pattern) (ns : List ℕ) → AreFacts qs ns facts → IsProved qs ns others h →
      t.conclusion ≡ instance qs h

abbrev pub AreGiven : List Pattern → List Theorem → List Theorem → List Theorem → Type 0
AreGiven hypotheses facts others ts = AllZip (IsGiven facts others) hypotheses ts

-- the theorem at this place says a negation, and only an equality may come after it
pub record IsNegationAt (ts : List Theorem) (x : ℕ) : Type 0 where
  pub theorem : Theorem
  pub there : slice_get ts x ≡ Some theorem
  pub last : IsLastButCondition ts x
  pub negated : Pattern
  pub says : theorem.conclusion ≡ not negated

abbrev pub HasNegation : List Theorem → Type 0
HasNegation ts = (x : ℕ) × IsNegationAt ts x

-- the theorem is at each such place
abbrev pub IsNegationOf : List Theorem → Theorem → Type 0
IsNegationOf ts t = (x : ℕ) → IsNegationAt ts x → slice_get ts x ≡ Some t
