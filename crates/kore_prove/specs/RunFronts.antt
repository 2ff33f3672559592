-- The front of a proof of a run, which the file of the proof may hold.
use Rattle.std.specs.Prelude.{◌≡◌, ℕ, ◌⊎◌, List, [], Option, Some}
use Rattle.desk_io.specs.Told.{Told}
use Rattle.desk_io.specs.KeptFiles.{KeepsFile}
use Rattle.desk_io.specs.HeldFiles.{TellsNow}
use Rattle.term_core.specs.Patterns.{Pattern}
use Rattle.rule_core.specs.Theories.{RewriteTheory}
use Rattle.mm_justify.specs.Justifying.{IsFrontOfRun}
use Rattle.kore_prove.specs.RunWords.{RunRequest, IsRun}
use Rattle.kore_prove.specs.Courses.{Call}
use Rattle.kore_prove.specs.Files.{HoldsRun}

-- the file is empty, or holds the front of a proof of the run of the initial term, up to one of its
-- configurations
pub record HoldsFront (told told' : Option Told) (file : List ℕ) (theory : RewriteTheory)
    (limit calls : ℕ) (start : Pattern) :
    Type 0 where
  pub bytes : List ℕ
  pub held : TellsNow told told' file bytes
  pub front : (bytes ≡ []) ⊎ IsFrontOfRun theory limit calls start bytes

-- the same, for the program and the initial term of the files, and the limits of the request
pub record HoldsFrontOfRun (asked : RunRequest) (told told' : Option Told) (file : List ℕ) :
    Type 0 where
  pub theory : RewriteTheory
  pub start : Pattern
  pub of_files : HoldsRun asked told theory start
  pub holds : HoldsFront told told' file theory asked.limit asked.calls start

-- if a proof is wanted, its file is as before, or it was created and holds the front of one
abbrev pub LeavesFront : RunRequest → Option Told → Option Told → Type 0
LeavesFront asked told told' =
    (file : List ℕ) → asked.proof ≡ Some file
    → KeepsFile told told' file ⊎ HoldsFrontOfRun asked told told' file

-- the same if the words ask for a run, for every exit code
abbrev pub LeavesFrontOfRun : Call → Type 0
LeavesFrontOfRun c =
    (asked : RunRequest) → IsRun c.words asked
    → LeavesFront asked c.course.desk.told c.course.desk'.told
