-- What holds at a place of a tree while its walk is there.
use Rattle.std.specs.Prelude.{◌≡◌, ℕ, List, [], ◌∷◌, length, Option, Some, option_map, Contains}
use Rattle.std.specs.Prelude.{if◌then◌else◌, None}
use Rattle.term_core.specs.Terms.{Tree}
use Rattle.pat_matrix.specs.Heads.{PlainHead, head_eq, root}
use Rattle.pat_matrix.specs.Positions.{subject_at}
use Rattle.pat_matrix.specs.Rows.{Row}
use Rattle.pat_matrix.specs.MatchTrees.{Findings, AllCollapsed, AreRising, matching_rows, rows_from}
use Rattle.match_tree.specs.Labels.{Label}

-- each head that was found is the one that the subjects have there
abbrev pub AreTrue : List Tree → Findings → Type 0
AreTrue ts found =
    (position : List ℕ) (h : PlainHead) → Contains found (position, Some h)
    → option_map root (subject_at ts position) ≡ Some h

-- each row has n patterns
abbrev pub AreWide : ℕ → List Row → Type 0
AreWide n [] = Unit {0}
AreWide n (r ∷ rows) = (length r.1 ≡ n) × AreWide n rows

-- The label tells of these subjects: of all rows from its number on, just those match that are left
-- and match.
pub record Tells (pairs : List (ℕ × ℕ)) (all : List Row) (ts : List Tree) (l : Label) : Type 0 where
  pub collapsed : AllCollapsed l.rows
  pub rising : AreRising l.from l.rows
  pub wide : AreWide (length ts) l.rows
  pub true_of : AreTrue ts l.found
  pub same : matching_rows pairs (rows_from l.from all) ts ≡ matching_rows pairs l.rows ts

-- the place of the branch for a head
abbrev pub find_place : List PlainHead → List ℕ → PlainHead → Option ℕ
find_place [] js k = None
find_place (h ∷ hs) [] k = None
find_place (h ∷ hs) (j ∷ js) k = if head_eq h k then Some j else find_place hs js k
