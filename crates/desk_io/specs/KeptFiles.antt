-- Which files of a desk stay as they are.
use Rattle.std.specs.Prelude.{◌≡◌, ℕ, List, Option, Some, None}
use Rattle.desk_io.specs.Told.{Told, file_of}

-- it tells the same as before, except for what is unread
abbrev pub KeepsFiles : Option Told → Option Told → Type 0
KeepsFiles None new = Unit {0}
KeepsFiles (Some old) new = (unread : List ℕ) × (new ≡ Some (record old { unread = unread }))

-- the file is as before
abbrev pub KeepsFile : Option Told → Option Told → List ℕ → Type 0
KeepsFile None new file = Unit {0}
KeepsFile (Some old) new file =
    (now : Told) × (new ≡ Some now) × (file_of now.files file ≡ file_of old.files file)

-- each file that is not written is as before
abbrev pub KeepsOthers : (List ℕ → Type 0) → Option Told → Option Told → Type 0
KeepsOthers IsWritten None new = Unit {0}
KeepsOthers IsWritten (Some old) new =
    (now : Told) × (new ≡ Some now)
    × ((name : List ℕ) → (IsWritten name → ⊥) → file_of now.files name ≡ file_of old.files name)
