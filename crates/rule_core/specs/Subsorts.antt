-- The order of sorts (K framework, attribute `subsort`). A sort is below another if a chain of one
-- or more declared pairs leads from it to the other.
use Rattle.std.specs.Prelude.{◌==◌, ◌&&◌, ◌||◌, ℕ, Bool, false, List, [], ◌∷◌, Contains}

pub data IsBelow (pairs : List (ℕ × ℕ)) : ℕ → ℕ → Type 0 where
  by_pair : {a b : ℕ} → Contains pairs (a, b) → IsBelow pairs a b
  by_chain : {a b c : ℕ} → Contains pairs (a, b) → IsBelow pairs b c → IsBelow pairs a c

-- The test: a chain that does not need the first pair, or a chain that needs it once.
abbrev pub is_below : List (ℕ × ℕ) → ℕ → ℕ → Bool
is_below [] a b = false
is_below (pair ∷ pairs) a b =
    is_below pairs a b
    || ((a == pair.0 || is_below pairs a pair.0) && (pair.1 == b || is_below pairs pair.1 b))

-- no sort is below itself
abbrev pub HasNoCycle : List (ℕ × ℕ) → Type 0
HasNoCycle pairs = (a : ℕ) → IsBelow pairs a a → ⊥
