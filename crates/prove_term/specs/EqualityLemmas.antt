-- The lemmas on equalities of pattern variables: what each assumes, and what it says.
use Rattle.std.specs.Prelude.{◌≡◌, ◌⊎◌, ℕ, IsTrue, List, [], ◌∷◌, All, Contains, Some, slice_get}
use Rattle.ml_pat.specs.Patterns.{Pattern, equal, and, app, meta}
use Rattle.ml_kernel.specs.Lemmas.{instance}
use Rattle.ml_kernel.specs.Theorems.{Theorem}
use Rattle.ml_derived.specs.Scopes.{Scope, IsStatedIn, AreOver, AreWithin, IsWithin}
use Rattle.prove_term.specs.Contexts.{Context}
use Rattle.prove_term.specs.declared.equality_lemmas.EqualityLemma.{EqualityLemma}
use Rattle.prove_term.specs.declared.equality_lemmas.EqualityLemma.TheVariants.{Flip, Join, CongFun}
use Rattle.prove_term.specs.declared.equality_lemmas.EqualityLemma.TheVariants.{CongArg, CongApp}
use Rattle.prove_term.specs.declared.equality_lemmas.EqualityLemma.TheVariants.{NameFirst, NameLast}

-- the equality of two pattern variables
abbrev pub same_metas : ℕ → ℕ → Pattern
same_metas i j = equal (meta i) (meta j)

-- what a lemma assumes; a lemma with one hypothesis has it twice here
abbrev pub first_of : EqualityLemma → Pattern
first_of Flip = same_metas 0 1
first_of Join = same_metas 0 1
first_of CongFun = same_metas 0 1
first_of CongArg = same_metas 1 2
first_of CongApp = same_metas 0 1
first_of NameFirst = same_metas 0 1
first_of NameLast = same_metas 0 1

abbrev pub second_of : EqualityLemma → Pattern
second_of Flip = same_metas 0 1
second_of Join = same_metas 1 2
second_of CongFun = same_metas 0 1
second_of CongArg = same_metas 1 2
second_of CongApp = same_metas 2 3
second_of NameFirst = same_metas 0 1
second_of NameLast = same_metas 0 1

-- what a lemma says
abbrev pub conclusion_of : EqualityLemma → Pattern
conclusion_of Flip = same_metas 1 0
conclusion_of Join = same_metas 0 2
conclusion_of CongFun = equal (app (meta 0) (meta 2)) (app (meta 1) (meta 2))
conclusion_of CongArg = equal (app (meta 0) (meta 1)) (app (meta 0) (meta 2))
conclusion_of CongApp = equal (app (meta 0) (meta 2)) (app (meta 1) (meta 3))
conclusion_of NameFirst = equal (and (meta 1) (meta 0)) (meta 1)
conclusion_of NameLast = equal (and (meta 0) (meta 1)) (meta 1)

-- how many pattern variables a lemma has
abbrev pub metas_of : EqualityLemma → ℕ
metas_of Flip = 2
metas_of Join = 3
metas_of CongFun = 3
metas_of CongArg = 3
metas_of CongApp = 4
metas_of NameFirst = 2
metas_of NameLast = 2

-- the number under which its place is kept
abbrev pub number_of : EqualityLemma → ℕ
number_of Flip = 0
number_of Join = 1
number_of CongFun = 2
number_of CongArg = 3
number_of CongApp = 4
number_of NameFirst = 5
number_of NameLast = 6

-- each scope of all variables in which these patterns may be assumed has the theorem
abbrev pub IsMadeFrom : List Pattern → Theorem → Type 0
IsMadeFrom ps t =
    (s : Scope) → ((x : ℕ) → IsTrue (s.object x)) → ((i : ℕ) → IsTrue (s.meta i))
    → ((p : Pattern) → Contains ps p → Contains s.assumed p) → IsWithin s t

-- the theorem says what the lemma says, from the lemma's hypotheses
pub record IsMadeFor (which : EqualityLemma) (t : Theorem) : Type 0 where
  pub says : t.conclusion ≡ conclusion_of which
  pub stays : IsMadeFrom (first_of which ∷ second_of which ∷ []) t

abbrev pub IsEqualityHypothesis : EqualityLemma → Pattern → Type 0
IsEqualityHypothesis which p = (p ≡ first_of which) ⊎ (p ≡ second_of which)

-- the lemma says that, and assumes at most these two patterns
pub record IsEqualityLemma (which : EqualityLemma) (lemma : Theorem) : Type 0 where
  pub says : lemma.conclusion ≡ conclusion_of which
  pub hypotheses : All (IsEqualityHypothesis which) lemma.hypotheses

-- the lemma at this place of the context does
pub record IsEqualityAt (cx : Context) (which : EqualityLemma) (k : ℕ) : Type 0 where
  pub lemma : Theorem
  pub there : slice_get cx.lemmas k ≡ Some lemma
  pub is : IsEqualityLemma which lemma

-- ---- the use of a lemma

-- A hypothesis is first if its left side is the first pattern variable.
abbrev pub IsFirst : Pattern → Type 0
IsFirst p = p ≡ same_metas 0 1

abbrev pub IsLater : Pattern → Type 0
IsLater p = (p ≡ same_metas 1 2) ⊎ (p ≡ same_metas 2 3)

-- the theorem t proves the hypothesis p
abbrev pub ProvesEither : Theorem → Theorem → Pattern → Theorem → Type 0
ProvesEither first second p t = (IsFirst p × (t ≡ first)) ⊎ (IsLater p × (t ≡ second))

-- both theorems prove the lemma's hypotheses with these patterns for its pattern variables
pub record ProveHypotheses (which : EqualityLemma) (images : List Pattern) (first second : Theorem) :
    Type 0 where
  pub one : first.conclusion ≡ instance images (first_of which)
  pub two : second.conclusion ≡ instance images (second_of which)

-- each scope that has the lemma as stated, these patterns and both theorems has the theorem
abbrev pub CitesEquality : Theorem → List Pattern → Theorem → Theorem → Theorem → Type 0
CitesEquality lemma images first second t =
    (s : Scope) → IsStatedIn s lemma.hypotheses lemma.conclusion → AreOver s images
    → AreWithin s (first ∷ second ∷ []) → IsWithin s t

-- ---- names

-- of an equality between p and q: the conjunction of q and p equals q
abbrev pub IsNamedFirst : Pattern → Pattern → Type 0
IsNamedFirst e made = (p q : Pattern) → e ≡ equal p q → made ≡ equal (and q p) q

-- the same for the conjunction of p and q
abbrev pub IsNamedLast : Pattern → Pattern → Type 0
IsNamedLast e made = (p q : Pattern) → e ≡ equal p q → made ≡ equal (and p q) q
