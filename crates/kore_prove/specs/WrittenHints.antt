-- The file of the hints, after it was written and closed.
use Rattle.std.specs.Prelude.{ℕ, ◌⊎◌, List, Option, Some, None}
use Rattle.desk_io.specs.Told.{Told}
use Rattle.desk_io.specs.HeldFiles.{TellsNow}
use Rattle.desk_io.specs.KeptFiles.{KeepsFile}
use Rattle.kore_prove.specs.HintFronts.{HoldsFrontOf}

-- the file holds the text, if there are a file and a text
abbrev pub HoldsText : Option Told → Option Told → Option (List ℕ) → Option (List ℕ) → Type 0
HoldsText told told' None text = Unit {0}
HoldsText told told' (Some file) None = Unit {0}
HoldsText told told' (Some file) (Some text) = TellsNow told told' file text

-- the file is as before or holds a part of the text from its front, if there are a file and a text
abbrev pub MayHoldText : Option Told → Option Told → Option (List ℕ) → Option (List ℕ) → Type 0
MayHoldText told told' None text = Unit {0}
MayHoldText told told' (Some file) None = Unit {0}
MayHoldText told told' (Some file) (Some text) =
    KeepsFile told told' file ⊎ HoldsFrontOf told told' file text
