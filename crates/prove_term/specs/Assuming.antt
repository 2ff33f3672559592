-- Sentences on all arguments of a symbol, and what follows from them for pattern variables.
use Rattle.std.specs.Prelude.{◌≡◌, ℕ, IsTrue, List, [], ◌∷◌, Contains, length, take, drop, Some}
use Rattle.ml_pat.specs.Patterns.{Pattern, all, ex, equal, fun, var, meta}
use Rattle.ml_pat.specs.Judgements.{substituted, IsAbsent}
use Rattle.ml_kernel.specs.Theorems.{Theorem}
use Rattle.ml_derived.specs.Scopes.{Scope, IsWithin}
use Rattle.prove_term.specs.Schemas.{totality_from, meta_facts, reversed}
use Rattle.prove_term.specs.Constructing.{totality, IsTotalLemma}

-- The theorem has no hypotheses. It says that the constructor with these numbers is total, and the
-- constructor has `count` arguments.
pub record IsTotality (count head : ℕ) (numbers : List ℕ) (number : ℕ) (t : Theorem) : Type 0 where
  pub as_many : count ≡ length numbers
  pub says : t.conclusion ≡ totality head numbers number
  pub no_hypotheses : t.hypotheses ≡ []

-- If the first theorem says that a constructor is total, the second says the same for pattern
-- variables.
abbrev pub TotalFrom : ℕ → Theorem → Theorem → Type 0
TotalFrom count t made =
    (head : ℕ) (numbers : List ℕ) (number : ℕ) → IsTotality count head numbers number t →
    IsTotalLemma head numbers number made

-- The theorem says the same with pattern variables in place of the first i variables. It assumes
-- their sorts.
pub record IsPartly (i head : ℕ) (numbers : List ℕ) (number : ℕ) (t : Theorem) : Type 0 where
  pub says : t.conclusion ≡ totality_from head i (drop i numbers) (length numbers) number
  pub hypotheses : t.hypotheses ≡ reversed (meta_facts 0 (take i numbers))

abbrev pub PartlyFrom : ℕ → ℕ → Theorem → Theorem → Type 0
PartlyFrom count i t made =
    (head : ℕ) (numbers : List ℕ) (number : ℕ) → IsTotality count head numbers number t →
    IsPartly i head numbers number made

-- If a scope has the theorem and all pattern variables, and assumes the hypotheses of the second
-- theorem, it has the second.
abbrev pub StaysFrom : Theorem → Theorem → Type 0
StaysFrom t made =
    (s : Scope) → ((i : ℕ) → IsTrue (s.meta i)) → IsWithin s t →
    ((p : Pattern) → Contains made.hypotheses p → Contains s.assumed p) → IsWithin s made

-- The pattern is for all elements of a sort. `opened` is its body with pattern variable i in place
-- of the bound variable.
pub record Opens (i : ℕ) (p : Pattern) : Type 0 where
  pub variable : ℕ
  pub sort : ℕ
  pub body : Pattern
  pub is : p ≡ all variable sort body
  pub opened : Pattern
  pub put : substituted body variable (meta i) ≡ Some opened

-- the second theorem says the opened pattern, and assumes that pattern variable i is one element of
-- the sort
abbrev pub OpenedFrom : ℕ → Theorem → Theorem → Type 0
OpenedFrom i t made =
    (o : Opens i t.conclusion)
    → (made.conclusion ≡ o.opened) × (made.hypotheses ≡ fun (meta i) o.sort ∷ t.hypotheses)

-- the pattern says that some element of a sort equals `made`
pub record IsSome (p : Pattern) : Type 0 where
  pub variable : ℕ
  pub sort : ℕ
  pub made : Pattern
  pub is : p ≡ ex variable sort (equal (var variable) made)
  pub absent : IsAbsent variable made

-- the second theorem says that `made` is one element of the sort
abbrev pub OneElementFrom : Theorem → Theorem → Type 0
OneElementFrom t made =
    (o : IsSome t.conclusion)
    → (made.conclusion ≡ fun o.made o.sort) × (made.hypotheses ≡ t.hypotheses)
