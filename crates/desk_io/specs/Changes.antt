-- How the calls of a desk change what it tells.
use Rattle.std.specs.Prelude.{◌≡◌, ◌≢◌, ℕ, Bool, true, false, List, [], ◌∷◌, ◌++◌, drop, Option}
use Rattle.std.specs.Prelude.{Some, None, Result, Ok, Err}
use Rattle.desk_io.specs.declared.desk.DeskFault.{DeskFault}
use Rattle.desk_io.specs.Told.{Told, file_of}

-- no two files have the same name
abbrev pub NamesDiffer : List (List ℕ × List ℕ) → Type 0
NamesDiffer [] = Unit {0}
NamesDiffer (file ∷ files) = (file_of files file.0 ≡ None) × NamesDiffer files

-- it tells the same as before
abbrev pub Same : Option Told → Option Told → Type 0
Same None new = Unit {0}
Same (Some old) new = new ≡ Some old

-- what a result of opening the file of this name says: with true, the whole file is unread; with
-- false, there is no such file and nothing is unread; with a fault, nothing is unread
abbrev pub Opens : Option Told → Option Told → List ℕ → Result Bool DeskFault → Type 0
Opens None new name answer = Unit {0}
Opens (Some old) new name (Ok true) = (content : List ℕ) × (file_of old.files name ≡ Some content)
    × (new ≡ Some (record old { unread = content }))
Opens (Some old) new name (Ok false) =
    (file_of old.files name ≡ None) × (new ≡ Some (record old { unread = [] }))
Opens (Some old) new name (Err fault) = new ≡ Some (record old { unread = [] })

-- these bytes were the first unread ones, and have now been read
abbrev pub Passed : Option Told → Option Told → List ℕ → Type 0
Passed None new bytes = Unit {0}
Passed (Some old) new bytes =
    (rest : List ℕ) × (old.unread ≡ bytes ++ rest) × (new ≡ Some (record old { unread = rest }))

-- nothing is unread
abbrev pub AtEnd : Option Told → Type 0
AtEnd None = Unit {0}
AtEnd (Some told) = told.unread ≡ []

-- the file of that name is open, and all but its first n bytes are unread
abbrev pub Leaves : Option Told → Option Told → List ℕ → ℕ → Type 0
Leaves None new name n = Unit {0}
Leaves (Some old) new name n = (content : List ℕ) × (file_of old.files name ≡ Some content)
    × (new ≡ Some (record old { unread = drop n content }))

-- it tells a created file exactly when one is created, and this is the name of one of its files
abbrev pub TellsCreated : Bool → Option Told → Type 0
TellsCreated created None = Unit {0}
TellsCreated false (Some told) = told.created ≡ None
TellsCreated true (Some told) = (name : List ℕ) × (content : List ℕ) × (told.created ≡ Some name)
    × (file_of told.files name ≡ Some content)

-- the file of that name has this content now, and every other file is as before
abbrev pub PutsFile : List (List ℕ × List ℕ) → List (List ℕ × List ℕ) → List ℕ → List ℕ → Type 0
PutsFile old new name content = (file_of new name ≡ Some content)
    × ((other : List ℕ) → other ≢ name → file_of new other ≡ file_of old other)

-- the file of that name is now empty and the created one, and nothing is unread
abbrev pub Creates : Option Told → Option Told → List ℕ → Type 0
Creates None new name = Unit {0}
Creates (Some old) new name = (files : List (List ℕ × List ℕ)) × PutsFile old.files files name []
    × (new ≡ Some (record { files = files; unread = []; created = Some name }))

-- the created file grew by these bytes
abbrev pub Writes : Option Told → Option Told → List ℕ → Type 0
Writes None new bytes = Unit {0}
Writes (Some old) new bytes =
    (name : List ℕ) × (content : List ℕ) × (files : List (List ℕ × List ℕ))
    × (old.created ≡ Some name) × (file_of old.files name ≡ Some content)
    × PutsFile old.files files name (content ++ bytes) × (new ≡ Some (record old { files = files }))

-- the created file grew by some of these bytes, taken from their front
abbrev pub WritesFront : Option Told → Option Told → List ℕ → Type 0
WritesFront None new bytes = Unit {0}
WritesFront (Some old) new bytes =
    (front : List ℕ) × (rest : List ℕ) × (bytes ≡ front ++ rest) × Writes (Some old) new front

-- no file is the created one any more
abbrev pub Closes : Option Told → Option Told → Type 0
Closes None new = Unit {0}
Closes (Some old) new = new ≡ Some (record old { created = None })
