-- Which calls prove a path or find a bad line, unless a fault is counted or memory runs out.
use Rattle.std.specs.Prelude.{◌≡◌, ◌⊎◌, ℕ, List, Option, Some, None}
use Rattle.desk_io.specs.Told.{Told}
use Rattle.kore_prove.specs.CompleteRuns.{IsFaultless, IsUnhindered}
use Rattle.kore_prove.specs.Limits.{HoldsWithin, definition_limit}
use Rattle.kore_prove.specs.PathFiles.{hints_limit}
use Rattle.kore_prove.specs.ProveWords.{ProveRequest, IsProve}
use Rattle.kore_prove.specs.Courses.{Call}

-- the words ask for a proof of a path, from files that exist, within their limits, and the
-- definition has no fault
pub record CanReadPath (words : List (List ℕ)) (told : Told) : Type 0 where
  pub asked : ProveRequest
  pub command : IsProve words asked
  pub definition : List ℕ
  pub definition_held : HoldsWithin (Some told) asked.definition definition_limit definition
  pub faultless : IsFaultless definition
  pub bytes : List ℕ
  pub held : HoldsWithin (Some told) asked.hints hints_limit bytes

-- the desk tells its files, and the words can read a path from two of them
abbrev pub IsReadyToProve : List (List ℕ) → Option Told → Type 0
IsReadyToProve words None = ⊥
IsReadyToProve words (Some told) = CanReadPath words told

-- if the words can read a path and no fault is counted, the call proves it, finds a bad line, or
-- memory ran out
abbrev pub CompletesPath : Call → ℕ → Type 0
CompletesPath c code =
    IsReadyToProve c.words c.course.desk.told → IsUnhindered c.course
    → (code ≡ 0) ⊎ (code ≡ 14) ⊎ (code ≡ 1)
