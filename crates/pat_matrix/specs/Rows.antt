-- Rows of patterns, with their numbers, and the rows that are left after a look at one position.
use Rattle.std.specs.Prelude.{◌+◌, ℕ, zero, suc, Bool, true, false, List, [], ◌∷◌, ◌++◌, filter}
use Rattle.std.specs.Prelude.{map}
use Rattle.std.specs.Prelude.{Option, Some, None, take, drop, length}
use Rattle.std.specs.List.{list_any}
use Rattle.term_core.specs.Patterns.{Pattern}
use Rattle.pat_matrix.specs.Collapsed.{collapsed}
use Rattle.pat_matrix.specs.Heads.{PlainHead, of_value, of_constructor, of_injection, takes}
use Rattle.pat_matrix.specs.Positions.{row_asks}

-- a row has its number and its patterns, one for each subject
abbrev pub Row : Type 0
Row = ℕ × List Pattern

-- the row takes a head at a position where it asks this
abbrev pub takes_there : List (ℕ × ℕ) → PlainHead → Option Pattern → Bool
takes_there pairs h None = false
takes_there pairs h (Some q) = takes pairs q h

abbrev pub is_wild : Option Pattern → Bool
is_wild None = true
is_wild (Some q) = false

-- a row can match subjects with this head at a position if it asks nothing there or takes the head
abbrev pub wants : List (ℕ × ℕ) → PlainHead → Option Pattern → Bool
wants pairs h None = true
wants pairs h (Some q) = takes pairs q h

-- the rows that can match subjects with this head at the position, in their order
abbrev pub specialized : List (ℕ × ℕ) → List ℕ → PlainHead → List Row → List Row
specialized pairs position h rows =
    filter (λ (r : Row). wants pairs h (row_asks r.1 position)) rows

-- the rows that ask nothing at the position, in their order
abbrev pub others : List ℕ → List Row → List Row
others position rows = filter (λ (r : Row). is_wild (row_asks r.1 position)) rows

-- one of the rows has this head at the position
abbrev pub some_takes : List (ℕ × ℕ) → List ℕ → PlainHead → List Row → Bool
some_takes pairs position h rows =
    list_any (λ (r : Row). takes_there pairs h (row_asks r.1 position)) rows

-- the number of children under a head
abbrev pub width : PlainHead → ℕ
width (of_value s v) = 0
width (of_constructor f n) = n
width (of_injection a b) = 1

-- n positions, each of them the position with the number of a child at its end, from k on
abbrev pub below_from : List ℕ → ℕ → ℕ → List (List ℕ)
below_from position k zero = []
below_from position k (suc n) = (position ++ k ∷ []) ∷ below_from position (k + 1) n

-- the columns with these in the place of the one with the number; none if no row is left
abbrev pub replaced : List Row → List (List ℕ) → ℕ → List (List ℕ) → List (List ℕ)
replaced [] columns col new = []
replaced (r ∷ rows) columns col new = (take col columns ++ new) ++ drop (col + 1) columns

-- rows with their numbers from k on
abbrev pub numbered : ℕ → List (List Pattern) → List Row
numbered k [] = []
numbered k (ps ∷ rows) = (k, ps) ∷ numbered (k + 1) rows

-- the rows with nested injections joined
abbrev pub collapsed_rows : List (List Pattern) → List (List Pattern)
collapsed_rows rows = map (λ (ps : List Pattern). map collapsed ps) rows

-- n columns, the subjects from k on
abbrev pub subjects_from : ℕ → ℕ → List (List ℕ)
subjects_from k zero = []
subjects_from k (suc n) = (k ∷ []) ∷ subjects_from (k + 1) n

-- one column for each pattern of the first row; none if there is no row
abbrev pub first_columns : List (List Pattern) → List (List ℕ)
first_columns [] = []
first_columns (ps ∷ rows) = subjects_from 0 (length ps)

-- n numbers, from k on
abbrev pub numbers_from : ℕ → ℕ → List ℕ
numbers_from k zero = []
numbers_from k (suc n) = k ∷ numbers_from (k + 1) n
