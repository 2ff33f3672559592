-- Laws of rows: joining nested injections changes no match, and only rows that do not match are
-- left out after a look at a position.
use Rattle.std.specs.Prelude.{◌≡◌, ◌↔◌, ℕ, Bool, false, List, Option, Some, None}
use Rattle.term_core.specs.Terms.{Tree, Forest}
use Rattle.term_core.specs.Forests.{forest}
use Rattle.term_core.specs.Patterns.{Pattern, Patterns}
use Rattle.term_core.specs.Instances.{patterns}
use Rattle.rule_core.specs.Matching.{MatchAll}
use Rattle.rule_core.specs.MatchSteps.{all_matched}
use Rattle.rule_core.specs.Sorting.{HaveSorts}
use Rattle.rule_core.specs.declared.signature.Signature.{Signature}
use Rattle.rule_core.specs.declared.signature.SortRef.{SortRef}
use Rattle.pat_matrix.specs.Collapsed.{all_collapsed, AreCollapsed}
use Rattle.pat_matrix.specs.Heads.{root, takes}
use Rattle.pat_matrix.specs.Positions.{row_asks, subject_at}

-- Patterns with nested injections joined match the same terms by the same substitutions.
abbrev pub CollapsedMatchesTheSame : Type 0
CollapsedMatchesTheSame =
    (sig : Signature) (variables : List ℕ) (ps : Patterns) (ts : Forest)
    (theta : List (Option Tree)) →
    MatchAll sig variables (all_collapsed ps) ts theta ↔ MatchAll sig variables ps ts theta

-- They have no nested injections, and the same sorts.
abbrev pub CollapsedIsCollapsed : Type 0
CollapsedIsCollapsed = (ps : Patterns) → AreCollapsed (all_collapsed ps)

abbrev pub CollapsedIsSorted : Type 0
CollapsedIsSorted =
    (sig : Signature) (variables sorts : List ℕ) (ps : Patterns) (refs : List SortRef) →
    HaveSorts sig variables sorts ps refs → HaveSorts sig variables sorts (all_collapsed ps) refs

-- the head of a term that is there is one that the pattern takes
abbrev pub takes_root : List (ℕ × ℕ) → Pattern → Option Tree → Bool
takes_root pairs q None = false
takes_root pairs q (Some u) = takes pairs q (root u)

-- A row does not match subjects that have, where it asks for a head, none that it takes.
abbrev pub UntakenDoNotMatch : Type 0
UntakenDoNotMatch =
    (pairs : List (ℕ × ℕ)) (ps : List Pattern) (ts : List Tree) (position : List ℕ) (q : Pattern)
    (theta : List (Option Tree)) → AreCollapsed (patterns ps) →
    row_asks ps position ≡ Some q → takes_root pairs q (subject_at ts position) ≡ false →
    all_matched pairs (patterns ps) (forest ts) theta ≡ None
