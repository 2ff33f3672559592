-- Laws of matching trees.
use Rattle.std.specs.Prelude.{◌≡◌, ℕ, true, List, length, Some, is_some, Contains}
use Rattle.term_core.specs.Terms.{Tree}
use Rattle.pat_matrix.specs.MatchTrees.{MatchTree, IsMatchTree, AllCollapsed, AreRising, hits}
use Rattle.pat_matrix.specs.MatchTrees.{matching_rows, rows_from, Findings}
use Rattle.pat_matrix.specs.MatchTrees.{row_match}
use Rattle.pat_matrix.specs.Collapsed.{AreCollapsed}
use Rattle.pat_matrix.specs.MatrixLaws.{takes_root}
use Rattle.pat_matrix.specs.Occurrences.{row_twins, twins_agree}
use Rattle.pat_matrix.specs.Positions.{row_asks, subject_at, asked_positions}
use Rattle.pat_matrix.specs.Rows.{Row}
use Rattle.term_core.specs.Instances.{patterns}
use Rattle.term_core.specs.Patterns.{Pattern}

-- A tree for rows finds the rows that match, in their order. Of all rows from the number on, those
-- that are not left must not match.
abbrev pub TreeFindsMatches : Type 0
TreeFindsMatches =
    (pairs : List (ℕ × ℕ)) (all : List Row) (t : MatchTree) (from : ℕ) (rows : List Row)
    (found : Findings) (ts : List Tree) → AllCollapsed rows → AreRising from rows →
    matching_rows pairs (rows_from from all) ts ≡ matching_rows pairs rows ts →
    IsMatchTree pairs t from found rows →
    hits pairs all t ts ≡ matching_rows pairs rows ts

-- If every head for which a row asks was found in the subjects, the row matches exactly if the
-- occurrences of each variable stand for one term.
abbrev pub FoundMatchByTwins : Type 0
FoundMatchByTwins =
    (pairs : List (ℕ × ℕ)) (ps : List Pattern) (ts : List Tree) → AreCollapsed (patterns ps) →
    length ps ≡ length ts →
    ((position : List ℕ) (q : Pattern) → row_asks ps position ≡ Some q
    → takes_root pairs q (subject_at ts position) ≡ true) →
    is_some (row_match pairs ps ts) ≡ twins_agree ts (row_twins ps)

-- The positions of a row are listed: each at which it has a pattern that is not a variable.
abbrev pub AskedAreListed : Type 0
AskedAreListed =
    (ps : List Pattern) (position : List ℕ) (q : Pattern) → row_asks ps position ≡ Some q →
    Contains (asked_positions ps) position

-- No other position is listed.
abbrev pub ListedAreAsked : Type 0
ListedAreAsked =
    (ps : List Pattern) (position : List ℕ) → Contains (asked_positions ps) position →
    (q : Pattern) × (row_asks ps position ≡ Some q)
