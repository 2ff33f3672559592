-- What the created file of a desk holds.
use Rattle.std.specs.Prelude.{◌≡◌, ℕ, List, Option, Some, None}
use Rattle.desk_io.specs.Told.{Told, file_of}

-- the file of that name is the created one, and holds a text of which this is true
abbrev pub HoldsCreated : (List ℕ → Type 0) → Option Told → List ℕ → Type 0
HoldsCreated IsText None name = ⊥
HoldsCreated IsText (Some told) name =
    (text : List ℕ) × (told.created ≡ Some name) × (file_of told.files name ≡ Some text)
    × IsText text

-- if the created file held a text of the first kind before, it holds one of the second kind now
abbrev pub CreatedBecomes : (List ℕ → Type 0) → (List ℕ → Type 0) → Option Told → Option Told
    → Type 0
CreatedBecomes Before After None new = Unit {0}
CreatedBecomes Before After (Some old) new =
    (name : List ℕ) → HoldsCreated Before (Some old) name → HoldsCreated After new name
