-- For each number, the places of the groups that it is in.
use Rattle.std.specs.Prelude.{◌≡◌, ℕ, zero, suc, ◌-◌, Bool, false, ◌&&◌, nat_eq, if◌then◌else◌}
use Rattle.std.specs.Prelude.{List, [], ◌∷◌, ◌++◌, length, take, slice_get, Option, Some, None}
use Rattle.std.specs.Prelude.{true}
use Rattle.std.specs.Global.{Vec}
use Rattle.mm_frame.specs.PlainFrames.{has_number, in_group}
use Rattle.mm_frame.specs.Places.{places_of, passes}
use Rattle.mm_frame.specs.Numbered.{NumberedHypothesis}
use Rattle.mm_database.specs.Frames.{floating, essential}

-- the list of a number; it is empty if there is none
abbrev pub list_of : List (Vec ℕ) → ℕ → List ℕ
list_of [] n = []
list_of (list ∷ lists) zero = list.items
list_of (list ∷ lists) (suc n) = list_of lists n

-- the places of the groups that have the number
abbrev pub group_places : List (List ℕ) → ℕ → List ℕ
group_places groups n = places_of (λ group. has_number group n) groups

-- the list of each number is that of the places of its groups
abbrev pub AreListed : List (List ℕ) → List (Vec ℕ) → Type 0
AreListed groups lists = (n : ℕ) → list_of lists n ≡ group_places groups n

abbrev pub is_place : ℕ → Option ℕ → Bool
is_place place None = false
is_place place (Some n) = nat_eq n place

-- the place is the last in the list
abbrev pub ends_with : ℕ → List ℕ → Bool
ends_with place places = is_place place (slice_get places (length places - 1))

-- the list with the place appended, unless the place is the last already
abbrev pub with_place : ℕ → List ℕ → List ℕ
with_place place places = if ends_with place places then places else places ++ place ∷ []

-- the list without the place at its end, if it ends with the place
abbrev pub without_place : ℕ → List ℕ → List ℕ
without_place place places =
    if ends_with place places then take (length places - 1) places else places

-- the group at a place has both a and b; these differ and are among the numbers
abbrev pub shares : List (List ℕ) → List ℕ → ℕ → ℕ → ℕ → Bool
shares groups numbers a b place = passes (in_group a b) (slice_get groups place)
    && (has_number numbers a && has_number numbers b)

abbrev pub is_essential : NumberedHypothesis → Bool
is_essential (floating label typecode variable) = false
is_essential (essential label statement) = true
