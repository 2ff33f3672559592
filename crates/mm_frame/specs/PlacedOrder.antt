-- Hypotheses added and found by their places, and in the order of these.
use Rattle.std.specs.Prelude.{◌≡◌, true, Bool, ◌<◌, ◌≤◌, ◌+◌, ℕ, nat_eq, nat_lt, if◌then◌else◌}
use Rattle.std.specs.Prelude.{List, [], ◌∷◌, Option, Some, None}
use Rattle.std.specs.List.{list_any}
use Rattle.mm_frame.specs.Numbered.{NumberedHypothesis}
use Rattle.mm_frame.specs.PlacedHypotheses.{Placed}

-- one more hypothesis at its place; it replaces what is there
abbrev pub placed_at : ℕ → NumberedHypothesis → List Placed → List Placed
placed_at place h [] = (place, h) ∷ []
placed_at place h (p ∷ ps) =
    if nat_lt place p.0 then (place, h) ∷ (p ∷ ps) else
    if nat_eq p.0 place then (place, h) ∷ ps else p ∷ placed_at place h ps

-- the hypothesis at a place
abbrev pub find_placed : List Placed → ℕ → Option NumberedHypothesis
find_placed [] place = None
find_placed (p ∷ ps) place = if nat_eq p.0 place then Some p.1 else find_placed ps place

abbrev pub AllBelow : ℕ → List Placed → Type 0
AllBelow end [] = Unit {0}
AllBelow end (p ∷ ps) = (p.0 < end) × AllBelow end ps

abbrev pub AllFrom : ℕ → List Placed → Type 0
AllFrom start [] = Unit {0}
AllFrom start (p ∷ ps) = (start ≤ p.0) × AllFrom start ps

abbrev pub AllUpTo : ℕ → List Placed → Type 0
AllUpTo last [] = Unit {0}
AllUpTo last (p ∷ ps) = (p.0 ≤ last) × AllUpTo last ps

abbrev pub has_place : List Placed → ℕ → Bool
has_place ps place = list_any (λ (p : Placed). nat_eq p.0 place) ps

abbrev pub HasPlace : List Placed → ℕ → Type 0
HasPlace ps place = has_place ps place ≡ true

-- each place of the first comes before each of the second
abbrev pub IsAhead : List Placed → List Placed → Type 0
IsAhead [] qs = Unit {0}
IsAhead (p ∷ ps) qs = AllFrom (p.0 + 1) qs × IsAhead ps qs

abbrev pub IsAscending : List Placed → Type 0
IsAscending [] = Unit {0}
IsAscending (p ∷ ps) = AllFrom (p.0 + 1) ps × IsAscending ps
