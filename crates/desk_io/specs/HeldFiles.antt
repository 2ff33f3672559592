-- What files a desk tells.
use Rattle.std.specs.Prelude.{◌≡◌, ℕ, List, Option, Some, None}
use Rattle.desk_io.specs.Told.{Told, file_of}

-- there is a file of that name now, with this content
abbrev pub Tells : Option Told → List ℕ → List ℕ → Type 0
Tells None file bytes = ⊥
Tells (Some told) file bytes = file_of told.files file ≡ Some bytes

-- the desk told its files before, and tells now that there is a file of that name with this content
abbrev pub TellsNow : Option Told → Option Told → List ℕ → List ℕ → Type 0
TellsNow None told' file bytes = Unit {0}
TellsNow (Some told) told' file bytes = Tells told' file bytes
