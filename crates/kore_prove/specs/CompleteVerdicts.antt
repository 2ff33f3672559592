-- Which calls print a verdict, unless a fault is counted or memory runs out.
use Rattle.std.specs.Prelude.{◌≡◌, ◌⊎◌, ℕ, List, Option, Some, None}
use Rattle.desk_io.specs.Told.{Told}
use Rattle.kore_prove.specs.Limits.{HoldsWithin}
use Rattle.kore_prove.specs.Verdicts.{database_limit}
use Rattle.kore_prove.specs.VerifyWords.{IsVerify}
use Rattle.kore_prove.specs.Courses.{Call}
use Rattle.kore_prove.specs.CountedFaults.{CountsReadFault, CountsOutputFault}

-- the words ask to verify a file, which exists and is within its limit
pub record CanVerify (words : List (List ℕ)) (told : Told) : Type 0 where
  pub file : List ℕ
  pub command : IsVerify words file
  pub bytes : List ℕ
  pub held : HoldsWithin (Some told) file database_limit bytes

-- the desk tells its files, and the words can verify one of them
abbrev pub IsReadyToVerify : List (List ℕ) → Option Told → Type 0
IsReadyToVerify words None = ⊥
IsReadyToVerify words (Some told) = CanVerify words told

-- if the words can verify a file and no fault in reading or in writing the output is counted, the
-- call prints a verdict or memory ran out
abbrev pub CompletesVerdict : Call → ℕ → Type 0
CompletesVerdict c code =
    IsReadyToVerify c.words c.course.desk.told
    → (CountsReadFault c.course → ⊥)
    → (CountsOutputFault c.course → ⊥)
    → (code ≡ 0) ⊎ (code ≡ 12) ⊎ (code ≡ 1)
