-- Where the symbols of an expression stand: the symbol and the position of each in one number, its
-- spot.
use Rattle.std.specs.Prelude.{◌≡◌, ℕ, ◌/◌, ◌%◌, ◌<◌, Bool, true, not, ◌&&◌, nat_lt, List, map}
use Rattle.std.specs.Prelude.{length, slice_get, Some, All}
use Rattle.std.specs.List.Sorted.{IsNonDecreasingBy}
use Rattle.mm_frame.specs.NumberLists.{has_number}

-- a spot is a symbol times 2^32, and a position
abbrev pub symbol_at : ℕ → ℕ
symbol_at spot = spot / 4294967296

abbrev pub position_at : ℕ → ℕ
position_at spot = spot % 4294967296

-- an expression of n symbols is long: it has 128 or more, whose positions fit in 32 bits
abbrev pub is_long : ℕ → Bool
is_long n = not (nat_lt n 128) && not (nat_lt 4294967296 n)

-- the symbol stands at the position
abbrev pub IsSpot : List ℕ → ℕ → Type 0
IsSpot symbols spot = slice_get symbols (position_at spot) ≡ Some (symbol_at spot)

-- the spots are those of the symbols, and those of one symbol stand side by side
pub record AreSpots (symbols : List ℕ) (spots : List ℕ) : Type 0 where
  pub each : All (IsSpot symbols) spots
  pub all : (i : ℕ) → i < length symbols → has_number (map position_at spots) i ≡ true
  pub ordered : IsNonDecreasingBy symbol_at spots
