-- What a sink tells after a fault, or after nothing was written.
use Rattle.std.specs.Prelude.{◌≡◌, ℕ, List, ◌++◌, Option, Some, None}

-- it tells the same as before
abbrev pub SameBytes : Option (List ℕ) → Option (List ℕ) → Type 0
SameBytes None new = Unit {0}
SameBytes (Some old) new = new ≡ Some old

-- what it tells grew by some of these bytes, taken from their front
abbrev pub AppendsFront : Option (List ℕ) → Option (List ℕ) → List ℕ → Type 0
AppendsFront None new bytes = Unit {0}
AppendsFront (Some old) new bytes =
    (front : List ℕ) × (rest : List ℕ) × (bytes ≡ front ++ rest) × (new ≡ Some (old ++ front))
