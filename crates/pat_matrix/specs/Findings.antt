-- What the making of a matching tree rests on: rows that fit what tests have found, and positions
-- that are reached when the positions before them were tested.
use Rattle.std.specs.Prelude.{◌≡◌, ℕ, Bool, true, List, [], ◌∷◌, ◌++◌, Option, Some, None, Contains}
use Rattle.term_core.specs.Patterns.{Pattern}
use Rattle.pat_matrix.specs.Heads.{PlainHead}
use Rattle.pat_matrix.specs.Positions.{row_asks, asked_positions}
use Rattle.pat_matrix.specs.Rows.{Row, is_wild, wants, specialized, others}
use Rattle.pat_matrix.specs.MatchTrees.{Findings, IsFound, IsReached}

-- a row that asks this at a position can match subjects of which this was found there
abbrev pub fits_finding : List (ℕ × ℕ) → Option PlainHead → Option Pattern → Bool
fits_finding pairs None asked = is_wild asked
fits_finding pairs (Some h) asked = wants pairs h asked

-- a row can match subjects of which all this was found
abbrev pub Fits : List (ℕ × ℕ) → Findings → List Pattern → Type 0
Fits pairs found ps =
    (position : List ℕ) (o : Option PlainHead) → Contains found (position, o)
    → fits_finding pairs o (row_asks ps position) ≡ true

abbrev pub AllFit : List (ℕ × ℕ) → Findings → List Row → Type 0
AllFit pairs found [] = Unit {0}
AllFit pairs found (r ∷ rows) = Fits pairs found r.1 × AllFit pairs found rows

-- the position was tested
abbrev pub IsTested : Findings → List ℕ → Type 0
IsTested found position = (o : Option PlainHead) × Contains found (position, o)

abbrev pub AreTested : Findings → List (List ℕ) → Type 0
AreTested found [] = Unit {0}
AreTested found (position ∷ positions) = IsTested found position × AreTested found positions

-- each position is reached when those before it were tested
abbrev pub AreReached : Findings → List (List ℕ) → Type 0
AreReached found [] = Unit {0}
AreReached found (position ∷ positions) =
    IsReached found position × (IsTested found position → AreReached found positions)

-- If every position that a fitting row asks was tested, every head of the row was found.
abbrev pub TestedRowIsFound : Type 0
TestedRowIsFound =
    (pairs : List (ℕ × ℕ)) (found : Findings) (ps : List Pattern) → Fits pairs found ps →
    AreTested found (asked_positions ps) → IsFound pairs found ps

-- The first position of a fitting row that was not tested is reached.
abbrev pub PositionsAreReached : Type 0
PositionsAreReached =
    (pairs : List (ℕ × ℕ)) (found : Findings) (ps : List Pattern) → Fits pairs found ps →
    AreReached found (asked_positions ps)

-- The rows of a branch fit what was found there too, and so do those that are left without one.
abbrev pub BranchRowsFit : Type 0
BranchRowsFit =
    (pairs : List (ℕ × ℕ)) (found : Findings) (position : List ℕ) (h : PlainHead)
    (rows : List Row) → AllFit pairs found rows →
    AllFit pairs (found ++ (position, Some h) ∷ []) (specialized pairs position h rows)

abbrev pub OtherRowsFit : Type 0
OtherRowsFit =
    (pairs : List (ℕ × ℕ)) (found : Findings) (position : List ℕ) (rows : List Row) →
    AllFit pairs found rows →
    AllFit pairs (found ++ (position, None) ∷ []) (others position rows)
