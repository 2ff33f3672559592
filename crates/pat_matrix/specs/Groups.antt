-- Rows by what they ask at a position: those that ask nothing, and those that have each head.
use Rattle.std.specs.Prelude.{◌≡◌, ◌||◌, ◌++◌, ℕ, Bool, List, [], ◌∷◌, length, map, filter}
use Rattle.std.specs.Prelude.{if◌then◌else◌}
use Rattle.std.specs.Global.{Vec}
use Rattle.pat_matrix.specs.Heads.{PlainHead, head_eq}
use Rattle.pat_matrix.specs.HeadView.{head_of, is_listed}
use Rattle.pat_matrix.specs.Positions.{row_asks}
use Rattle.pat_matrix.specs.Rows.{takes_there, is_wild, some_takes}
use Rattle.pat_matrix.specs.MatrixView.{row_of, order_of, numbered_rows}
use Rattle.pat_matrix.specs.declared.groups.Groups.{Groups}
use Rattle.pat_matrix.specs.declared.groups.Split.{Split}
use Rattle.pat_matrix.specs.declared.matrix.Matrix.{Matrix}

-- the list of a head, if each of these heads has one of these lists
abbrev pub numbers_under : List PlainHead → List (List ℕ) → PlainHead → List ℕ
numbers_under [] lists h = []
numbers_under (k ∷ hs) [] h = []
numbers_under (k ∷ hs) (ns ∷ lists) h = if head_eq k h then ns else numbers_under hs lists h

-- the lists of vectors
abbrev pub lists_of : List (Vec ℕ) → List (List ℕ)
lists_of vs = map (λ (v : Vec ℕ). v.items) vs

-- the numbers of the rows in the group of a head
abbrev pub group_of : Groups → PlainHead → List ℕ
group_of groups h = numbers_under (map head_of groups.heads.keys) (lists_of groups.rows.items) h

-- the row has the head at the position
abbrev pub takes_at : Matrix → List ℕ → PlainHead → ℕ → Bool
takes_at m position h n = takes_there (order_of m) h (row_asks (row_of m n) position)

-- the row asks nothing at the position
abbrev pub is_wild_at : Matrix → List ℕ → ℕ → Bool
is_wild_at m position n = is_wild (row_asks (row_of m n) position)

-- These are the groups of these rows by their heads at the position, each in the order of the rows,
-- and the rows that ask nothing there. Each head that a row has there has a group.
pub record IsSplit (m : Matrix) (position : List ℕ) (rows : List ℕ) (s : Split) : Type 0 where
  pub counted : length s.groups.rows.items ≡ length s.groups.heads.keys
  pub listed : (h : PlainHead) → is_listed s.groups.heads.keys h
      ≡ some_takes (order_of m) position h (numbered_rows m rows)
  pub taking : (h : PlainHead) → group_of s.groups h ≡ filter (takes_at m position h) rows
  pub wild : s.wild.items ≡ filter (is_wild_at m position) rows

-- The groups of all heads that pass the test have one more row, at the end.
pub record Gains (old new : Groups) (test : PlainHead → Bool) (row : ℕ) : Type 0 where
  pub counted : length new.rows.items ≡ length new.heads.keys
  pub listed : (h : PlainHead) → is_listed new.heads.keys h
      ≡ (is_listed old.heads.keys h || test h)
  pub grown : (h : PlainHead) → group_of new h
      ≡ group_of old h ++ (if test h then row ∷ [] else [])
