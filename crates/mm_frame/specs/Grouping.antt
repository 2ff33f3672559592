-- Groups with one more group, or only with its pairs.
use Rattle.std.specs.Prelude.{◌≡◌, ℕ, Bool, false, ◌&&◌, ◌||◌, nat_eq, List, [], ◌∷◌, length, take}
use Rattle.std.specs.List.{list_any}
use Rattle.mm_frame.specs.PlainFrames.{in_group, in_groups}

-- The new list begins with the old groups, and has the pairs of one more group. That group may be
-- left out if it adds no pair.
pub record Extends (old : List (List ℕ)) (group : List ℕ) (new : List (List ℕ)) : Type 0 where
  pub front : take (length old) new ≡ old
  pub pairs : (a b : ℕ) → in_groups new a b ≡ (in_groups old a b || in_group a b group)

-- two numbers are equal, or are in a group together
abbrev pub is_apart_or_same : List (List ℕ) → ℕ → ℕ → Bool
is_apart_or_same groups a b = nat_eq a b || in_groups groups a b

-- a and b are n and the other number, and these are in a group together
abbrev pub is_pair_of : List (List ℕ) → ℕ → ℕ → ℕ → ℕ → Bool
is_pair_of groups n a b other = in_groups groups n other && in_group a b (n ∷ (other ∷ []))

-- a and b are two of the numbers, and are in a group together
abbrev pub have_pair : List (List ℕ) → List ℕ → ℕ → ℕ → Bool
have_pair groups [] a b = false
have_pair groups (n ∷ others) a b =
    list_any (is_pair_of groups n a b) others || have_pair groups others a b
