-- Ranges of a list.
use Rattle.std.specs.Prelude.{ℕ, ◌-◌, ◌≤◌, List, map, take, drop, All}
use Rattle.mm_verify.specs.declared.stack.Range.{Range}

abbrev pub piece : List ℕ → Range → List ℕ
piece symbols r = take (r.to - r.from) (drop r.from symbols)

abbrev pub pieces : List ℕ → List Range → List (List ℕ)
pieces symbols ranges = map (piece symbols) ranges

-- the range does not end before it begins, and is within a list of this length
pub record IsRange (whole : ℕ) (r : Range) : Type 0 where
  pub ascends : r.from ≤ r.to
  pub ends : r.to ≤ whole

abbrev pub AreRanges : ℕ → List Range → Type 0
AreRanges whole ranges = All (IsRange whole) ranges
