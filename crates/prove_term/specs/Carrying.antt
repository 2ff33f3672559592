-- Lemmas on injections cited for one element, and what follows from them by equalities.
use Rattle.std.specs.Prelude.{◌≡◌, ℕ, IsTrue, [], ◌∷◌, Contains}
use Rattle.ml_pat.specs.Patterns.{Pattern, equal, fun, meta}
use Rattle.ml_kernel.specs.Lemmas.{HasNoVariable}
use Rattle.ml_kernel.specs.Theorems.{Theorem, IsByLemma}
use Rattle.ml_derived.specs.Scopes.{Scope, IsStatedIn, IsWithin}
use Rattle.prove_term.specs.Injections.{SaysInjected, SaysCollapsed}
use Rattle.prove_term.specs.Numbered.{inject}

-- the lemma is on an injection from s to t, and the proof says that p is one element of s
pub record Cites (c s t : ℕ) (p : Pattern) (lemma proof : Theorem) : Type 0 where
  pub says : SaysInjected c s t lemma
  pub proved : proof.conclusion ≡ fun p s
  pub closed : HasNoVariable p

abbrev pub CitedFrom : Theorem → Theorem → Theorem → Type 0
CitedFrom lemma proof made =
    (c s t : ℕ) (p : Pattern) → Cites c s t p lemma proof → made.conclusion ≡ fun (inject c s t p) t

abbrev pub CitedBy : Theorem → Theorem → Theorem → Type 0
CitedBy lemma proof made =
    (c s t : ℕ) (p : Pattern) → Cites c s t p lemma proof
    → IsByLemma lemma (p ∷ []) (proof ∷ []) made

-- the lemma is on injections from s to t and on to u, and the proof says that p is one element of s
pub record Collapses (c s t u : ℕ) (p : Pattern) (lemma proof : Theorem) : Type 0 where
  pub says : SaysCollapsed c s t u lemma
  pub proved : proof.conclusion ≡ fun p s
  pub closed : HasNoVariable p

abbrev pub CollapsesTo : Theorem → Theorem → Theorem → Type 0
CollapsesTo lemma proof made =
    (c s t u : ℕ) (p : Pattern) → Collapses c s t u p lemma proof →
    made.conclusion ≡ equal (inject c t u (inject c s t p)) (inject c s u p)

abbrev pub CollapsesBy : Theorem → Theorem → Theorem → Type 0
CollapsesBy lemma proof made =
    (c s t u : ℕ) (p : Pattern) → Collapses c s t u p lemma proof
    → IsByLemma lemma (p ∷ []) (proof ∷ []) made

-- Two lemmas on injections, from s to t and from t to u, and an equality. The equality says that
-- both injections in turn are the injection from s to u. It says so of a pattern variable, and
-- assumes its sort.
pub record Twice (c s t u : ℕ) (equality lower upper : Theorem) : Type 0 where
  pub first : SaysInjected c s t lower
  pub second : SaysInjected c t u upper
  pub assumes : equality.hypotheses ≡ fun (meta 0) s ∷ []
  pub equals : equality.conclusion
      ≡ equal (inject c t u (inject c s t (meta 0))) (inject c s u (meta 0))

pub record SaysTwice (c s t u : ℕ) (made : Theorem) : Type 0 where
  pub conclusion : made.conclusion ≡ fun (inject c t u (inject c s t (meta 0))) u
  pub hypotheses : made.hypotheses ≡ fun (meta 0) s ∷ []

abbrev pub TwiceFrom : Theorem → Theorem → Theorem → Theorem → Type 0
TwiceFrom equality lower upper made =
    (c s t u : ℕ) → Twice c s t u equality lower upper → SaysTwice c s t u made

-- If a scope has the equality, both lemmas as stated, all pattern variables, and assumes the
-- hypotheses of the result, it has the result.
abbrev pub StaysTwice : Theorem → Theorem → Theorem → Theorem → Type 0
StaysTwice equality lower upper made =
    (s : Scope) → ((i : ℕ) → IsTrue (s.meta i)) → IsWithin s equality
    → IsStatedIn s lower.hypotheses lower.conclusion
    → IsStatedIn s upper.hypotheses upper.conclusion
    → ((p : Pattern) → Contains made.hypotheses p → Contains s.assumed p) → IsWithin s made

-- One theorem is an equality. The other says that its left side is one element of a sort. Both have
-- the same hypothesis.
pub record Carries (p q : Pattern) (s : ℕ) (h : Pattern) (equality made : Theorem) : Type 0 where
  pub equals : equality.conclusion ≡ equal p q
  pub says : made.conclusion ≡ fun p s
  pub first : equality.hypotheses ≡ h ∷ []
  pub second : made.hypotheses ≡ h ∷ []

abbrev pub CarriedFrom : Theorem → Theorem → Theorem → Type 0
CarriedFrom equality made t =
    (p q : Pattern) (s : ℕ) (h : Pattern) → Carries p q s h equality made →
    (t.conclusion ≡ fun q s) × (t.hypotheses ≡ h ∷ [])
