-- What theorems use and cite. A scope has sorts, constants and variables, stated claims, and
-- patterns that may be assumed. A call of a derived rule states in one clause that its result stays
-- within every scope that contains its inputs.
use Rattle.std.specs.Prelude.{ℕ, Bool, IsTrue, List, [], ◌∷◌, Contains}
use Rattle.ml_pat.specs.Patterns.{Pattern}
use Rattle.ml_pat.specs.Leaves.{LeafFacts, EachLeaf}
use Rattle.ml_kernel.specs.Theorems.{Theorem}
use Rattle.ml_kernel.specs.UsedLeaves.{EachUsed}
use Rattle.ml_kernel.specs.MayCite.{MayCite, EachCited}

-- The sorts, constants, object variables and pattern variables that a pattern may have; the claims
-- that may be cited, each with its hypotheses; and the patterns that may be assumed.
pub record Scope : Type 0 where
  pub sort : ℕ → Bool
  pub constant : ℕ → Bool
  pub object : ℕ → Bool
  pub meta : ℕ → Bool
  pub stated : List (List Pattern × Pattern)
  pub assumed : List Pattern

abbrev pub leaves_of : Scope → LeafFacts
leaves_of s = record {
  sort = λ n. IsTrue (s.sort n);
  constant = λ n. IsTrue (s.constant n);
  object = λ n. IsTrue (s.object n);
  meta = λ n. IsTrue (s.meta n);
}

-- the pattern has only leaves of the scope
abbrev pub IsOver : Scope → Pattern → Type 0
IsOver s p = EachLeaf (leaves_of s) p

abbrev pub AreOver : Scope → List Pattern → Type 0
AreOver s [] = Unit {0}
AreOver s (p ∷ ps) = IsOver s p × AreOver s ps

abbrev pub IsStatedIn : Scope → List Pattern → Pattern → Type 0
IsStatedIn s hypotheses conclusion = Contains s.stated (hypotheses, conclusion)

-- an axiom and a lemma may be cited if they were stated; the bound variables of the axiom may be
-- renamed, and the lemma must be at patterns of the scope
abbrev pub cites_of : Scope → MayCite
cites_of s = record {
  fact = λ p new. IsStatedIn s [] p;
  lemma = λ own q ms. IsStatedIn s own q × AreOver s ms;
}

-- each may be assumed, and has only leaves of the scope
abbrev pub AreAssumed : Scope → List Pattern → Type 0
AreAssumed s ps = (p : Pattern) → Contains ps p → Contains s.assumed p × IsOver s p

-- the hypotheses, the conclusion, the patterns and the citations of the theorem are within the
-- scope
pub record IsWithin (s : Scope) (t : Theorem) : Type 0 where
  pub hypotheses : AreAssumed s t.hypotheses
  pub conclusion : IsOver s t.conclusion
  pub used : EachUsed (leaves_of s) t.derivation
  pub cited : EachCited (cites_of s) t.derivation

abbrev pub AreWithin : Scope → List Theorem → Type 0
AreWithin s [] = Unit {0}
AreWithin s (t ∷ ts) = IsWithin s t × AreWithin s ts

-- the pattern has only leaves of the scope, except for pattern variables, which are replaced by
-- other patterns
abbrev pub place_leaves_of : Scope → LeafFacts
place_leaves_of s = record {
  sort = λ n. IsTrue (s.sort n);
  constant = λ n. IsTrue (s.constant n);
  object = λ n. IsTrue (s.object n);
  meta = λ n. Unit {0};
}

abbrev pub IsOverPlaces : Scope → Pattern → Type 0
IsOverPlaces s p = EachLeaf (place_leaves_of s) p

-- Each scope that contains these patterns and these theorems contains this theorem.
abbrev pub StaysWithin : List Pattern → List Theorem → Theorem → Type 0
StaysWithin ps ts t = (s : Scope) → AreOver s ps → AreWithin s ts → IsWithin s t

-- Each scope that contains the pattern, and in which it may be assumed, contains this theorem.
abbrev pub AssumesWithin : Pattern → Theorem → Type 0
AssumesWithin p t = (s : Scope) → Contains s.assumed p → IsOver s p → IsWithin s t

-- Each scope in which the lemma was stated, and that contains the lemma's conclusion, these
-- patterns and these proofs, contains this theorem.
abbrev pub CitesWithin : Theorem → List Pattern → List Theorem → Theorem → Type 0
CitesWithin lemma ms ts t =
    (s : Scope) → IsStatedIn s lemma.hypotheses lemma.conclusion → IsOverPlaces s lemma.conclusion
    → AreOver s ms
    → AreWithin s ts → IsWithin s t
