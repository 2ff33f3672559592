-- Files that a desk does not have, or that are too long.
use Rattle.std.specs.Prelude.{◌≡◌, ℕ, List, Option, Some, None, ◌<◌, length}
use Rattle.desk_io.specs.Told.{Told, file_of}

-- there is no file of that name
abbrev pub Lacks : Option Told → List ℕ → Type 0
Lacks None name = Unit {0}
Lacks (Some told) name = file_of told.files name ≡ None

-- there is a file of that name, with more bytes than the limit
abbrev pub HoldsMore : Option Told → List ℕ → ℕ → Type 0
HoldsMore None name limit = Unit {0}
HoldsMore (Some told) name limit =
    (content : List ℕ) × (file_of told.files name ≡ Some content) × (limit < length content)
