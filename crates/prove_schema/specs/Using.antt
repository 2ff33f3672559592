-- Uses of a schema: the patterns that replace its pattern variables, and what follows.
use Rattle.std.specs.Prelude.{◌≡◌, ℕ, ◌+◌, ◌⊎◌, List, [], ◌∷◌, All, Some, length, slice_get}
use Rattle.ml_pat.specs.Patterns.{Pattern, not, equal, fun, member, meta}
use Rattle.ml_kernel.specs.Lemmas.{instance, HasNoVariable, IsMetaBelow}
use Rattle.ml_kernel.specs.Theorems.{Theorem}
use Rattle.ml_derived.specs.Scopes.{Scope, IsStatedIn, IsOverPlaces, IsWithin, AreWithin}

-- Each theorem says that the pattern at its place is one element of the sort with the number at its
-- place. The patterns have no object variables.
abbrev pub AreFacts : List Pattern → List ℕ → List Theorem → Type 0
AreFacts [] [] [] = Unit {0}
AreFacts [] [] (t ∷ ts) = ⊥
AreFacts [] (n ∷ ns) ts = ⊥
AreFacts (q ∷ qs) [] ts = ⊥
AreFacts (q ∷ qs) (n ∷ ns) [] = ⊥
AreFacts (q ∷ qs) (n ∷ ns) (t ∷ ts) = (t.conclusion ≡ fun q n) × HasNoVariable q × AreFacts qs ns ts

-- the place is the last one, or only an equality comes after it
abbrev pub IsLastButCondition : List Theorem → ℕ → Type 0
IsLastButCondition ts x =
    (x + 1 ≡ length ts)
    ⊎ ((x + 2 ≡ length ts)
    × ((t : Theorem) × (p : Pattern) × (q : Pattern) × (slice_get ts (x + 1) ≡ Some t)
    × (t.conclusion ≡ equal p q)))

-- The hypothesis of a schema is proved when the patterns qs replace its pattern variables. There
-- are four ways. A fact says that one of the patterns is one element of its sort. Or the
-- hypothesis says that the variable x is a member of a pattern, and the theorem at place x of
-- `others` says this of its pattern. Or the hypothesis is an equality, and the last theorem of
-- `others` says it. Or the hypothesis is a negation, and the last theorem of `others`, or the one
-- before such an equality, says it.
pub data IsProved (qs : List Pattern) (ns : List ℕ) (others : List Theorem) (h : Pattern) :
    Type 0 where
  by_fact : (x n : ℕ) → slice_get ns x ≡ Some n → h ≡ fun (meta x) n → IsProved qs ns others h
  by_member : (x : ℕ) (p : Pattern) (t : Theorem) → slice_get others x ≡ Some t
      → h ≡ member (meta x) p → IsMetaBelow (length qs) h → t.conclusion ≡ instance qs h
      → IsProved qs ns others h
  by_condition : (x : ℕ) (p q : Pattern) (t : Theorem) → slice_get others x ≡ Some t
      → x + 1 ≡ length others → h ≡ equal p q → IsMetaBelow (length qs) h
      → t.conclusion ≡ instance qs h → IsProved qs ns others h
  by_negation : (x : ℕ) (p : Pattern) (t : Theorem) → slice_get others x ≡ Some t
      → IsLastButCondition others x → h ≡ not p → IsMetaBelow (length qs) h
      → t.conclusion ≡ instance qs h → IsProved qs ns others h

-- the lemma can be used at these patterns
pub record IsUsable (qs : List Pattern) (ns : List ℕ) (lemma : Theorem)
    (facts others : List Theorem) : Type 0 where
  pub are : AreFacts qs ns facts
  pub proved : All (IsProved qs ns others) lemma.hypotheses
  pub below : IsMetaBelow (length qs) lemma.conclusion

-- the theorem says what the lemma concludes at the patterns
abbrev pub IsUsed : Theorem → List Theorem → List Theorem → Theorem → Type 0
IsUsed lemma facts others t =
    (qs : List Pattern) (ns : List ℕ) → IsUsable qs ns lemma facts others
    → t.conclusion ≡ instance qs lemma.conclusion

-- If the lemma was stated in a scope, and the scope has the parts of the lemma's conclusion and the
-- given theorems, then it has the theorem t.
abbrev pub StaysUsed : Theorem → List Theorem → List Theorem → Theorem → Type 0
StaysUsed lemma facts others t =
    (s : Scope) → IsStatedIn s lemma.hypotheses lemma.conclusion → IsOverPlaces s lemma.conclusion →
    AreWithin s facts → AreWithin s others → IsWithin s t
