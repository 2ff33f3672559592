-- The places of the elements of a list that pass a test, and what is at a place.
use Rattle.std.specs.Prelude.{ℕ, ◌+◌, Bool, false, if◌then◌else◌, List, [], ◌∷◌, Option, Some, None}

-- the places in order, if the number is the place of the list's first element
abbrev pub places_from : {X : Type 0} → (X → Bool) → ℕ → List X → List ℕ
places_from test at [] = []
places_from test at (x ∷ xs) =
    if test x then at ∷ places_from test (at + 1) xs else places_from test (at + 1) xs

abbrev pub places_of : {X : Type 0} → (X → Bool) → List X → List ℕ
places_of test xs = places_from test 0 xs

-- there is an element, and it passes the test
abbrev pub passes : {X : Type 0} → (X → Bool) → Option X → Bool
passes test None = false
passes test (Some x) = test x

abbrev pub found_at : {X : Type 0} → Option X → List X
found_at None = []
found_at (Some x) = x ∷ []
