-- Which calls decide what a database justifies, unless a fault is counted or memory runs out.
use Rattle.std.specs.Prelude.{◌≡◌, ◌⊎◌, ℕ, List, Option, Some, None}
use Rattle.desk_io.specs.Told.{Told}
use Rattle.kore_prove.specs.CheckWords.{CheckRequest, IsCheck}
use Rattle.kore_prove.specs.CompleteRuns.{IsFaultless}
use Rattle.kore_prove.specs.Limits.{HoldsWithin, definition_limit}
use Rattle.kore_prove.specs.Verdicts.{database_limit}
use Rattle.kore_prove.specs.Courses.{Call}
use Rattle.kore_prove.specs.CountedFaults.{CountsReadFault, CountsOutputFault}

-- the words ask for a check of files that exist, within their limits, and the definition has no
-- fault
pub record CanCheck (words : List (List ℕ)) (told : Told) : Type 0 where
  pub asked : CheckRequest
  pub command : IsCheck words asked
  pub definition : List ℕ
  pub definition_held : HoldsWithin (Some told) asked.definition definition_limit definition
  pub faultless : IsFaultless definition
  pub bytes : List ℕ
  pub held : HoldsWithin (Some told) asked.file database_limit bytes

-- the desk tells its files, and the words can check two of them
abbrev pub IsReadyToCheck : List (List ℕ) → Option Told → Type 0
IsReadyToCheck words None = ⊥
IsReadyToCheck words (Some told) = CanCheck words told

-- if the words can check a file and no fault in reading or in writing the output is counted, the
-- call prints what was decided or memory ran out
abbrev pub CompletesCheck : Call → ℕ → Type 0
CompletesCheck c code =
    IsReadyToCheck c.words c.course.desk.told
    → (CountsReadFault c.course → ⊥)
    → (CountsOutputFault c.course → ⊥)
    → (code ≡ 0) ⊎ (code ≡ 12) ⊎ (code ≡ 13) ⊎ (code ≡ 1)
