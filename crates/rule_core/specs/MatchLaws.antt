-- Laws of matching and of instances, in signatures where no sort is below itself.
use Rattle.std.specs.Prelude.{◌≡◌, ℕ, List, [], length, Option, Some, ◌⊎◌}
use Rattle.term_core.specs.Terms.{Tree, Forest, AreNormal}
use Rattle.term_core.specs.Patterns.{Patterns, instances_of, ground_patterns}
use Rattle.rule_core.specs.Subsorts.{HasNoCycle}
use Rattle.rule_core.specs.Sorting.{HaveSorts}
use Rattle.rule_core.specs.Matching.{RespectsSorts, MatchAll, NoneMatches}
use Rattle.rule_core.specs.MatchSearch.{UseFirst}
use Rattle.rule_core.specs.declared.signature.Signature.{Signature}
use Rattle.rule_core.specs.declared.signature.SortRef.{SortRef}

-- the terms have the declared sorts, in order
abbrev pub AreTermsOf : Signature → List ℕ → Forest → List SortRef → Type 0
AreTermsOf sig sorts ts refs = HaveSorts sig [] sorts (ground_patterns ts) refs

-- Well-sorted patterns use only variables that have a sort.
abbrev pub SortedUseFirst : Type 0
SortedUseFirst =
    (sig : Signature) (variables sorts : List ℕ) (ps : Patterns) (refs : List SortRef) →
    HaveSorts sig variables sorts ps refs → UseFirst (length variables) ps

-- The instances of well-sorted patterns under normal terms of the right sorts are normal terms of
-- the patterns' sorts.
abbrev pub InstancesAreSorted : Type 0
InstancesAreSorted =
    (sig : Signature) (variables sorts : List ℕ) (ps : Patterns) (refs : List SortRef)
    (theta : List (Option Tree)) (ts : Forest) → HaveSorts sig variables sorts ps refs →
    RespectsSorts sig variables theta → instances_of theta ps ≡ Some ts
    → AreTermsOf sig sorts ts refs × AreNormal ts

-- At most one substitution matches well-sorted patterns with terms.
abbrev pub MatchIsUnique : Type 0
MatchIsUnique =
    (sig : Signature) (variables sorts : List ℕ) (ps : Patterns) (refs : List SortRef) (ts : Forest)
    (theta sigma : List (Option Tree)) → HasNoCycle sig.subsorts
    → HaveSorts sig variables sorts ps refs →
    MatchAll sig variables ps ts theta → MatchAll sig variables ps ts sigma → theta ≡ sigma

-- It is decidable whether there is one, for normal terms of the patterns' sorts.
abbrev pub MatchIsDecidable : Type 0
MatchIsDecidable =
    (sig : Signature) (variables sorts : List ℕ) (ps : Patterns) (refs : List SortRef) (ts : Forest)
    →
    HasNoCycle sig.subsorts → HaveSorts sig variables sorts ps refs → AreTermsOf sig sorts ts refs
    → AreNormal ts →
    ((theta : List (Option Tree)) × MatchAll sig variables ps ts theta)
    ⊎ NoneMatches sig variables ps ts
