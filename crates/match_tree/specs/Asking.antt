-- Positions that a walk tests are asked by rows that are left.
use Rattle.std.specs.Prelude.{◌≡◌, ◌++◌, ℕ, true, false, List, [], ◌∷◌, Some, Contains}
use Rattle.term_core.specs.Terms.{Tree}
use Rattle.term_core.specs.Patterns.{Pattern}
use Rattle.pat_matrix.specs.Heads.{root}
use Rattle.pat_matrix.specs.Positions.{row_asks, subject_at}
use Rattle.pat_matrix.specs.Rows.{Row, is_wild, wants}
use Rattle.pat_matrix.specs.MatrixView.{rows_of, order_of}
use Rattle.pat_matrix.specs.declared.matrix.Matrix.{Matrix}

-- a row can match by the heads that the subjects have at these positions
abbrev pub CanStillMatch : List (ℕ × ℕ) → List Tree → List (List ℕ) → List Pattern → Type 0
CanStillMatch pairs ts positions ps =
    (position : List ℕ) (t : Tree) → Contains positions position
    → subject_at ts position ≡ Some t → wants pairs (root t) (row_asks ps position) ≡ true

-- Each position is asked by a row that can still match by the positions before it.
abbrev pub AreAskedInTurn : Matrix → List Tree → List (List ℕ) → List (List ℕ) → Type 0
AreAskedInTurn m ts before [] = Unit {0}
AreAskedInTurn m ts before (position ∷ positions) =
    ((r : Row) × Contains (rows_of m) r × (is_wild (row_asks r.1 position) ≡ false)
    × CanStillMatch (order_of m) ts before r.1)
    × AreAskedInTurn m ts (before ++ position ∷ []) positions
