-- The front of the hint text of a run, which the file of the hints may hold.
use Rattle.std.specs.Prelude.{◌≡◌, ℕ, ◌⊎◌, List, ◌++◌, Option, Some}
use Rattle.desk_io.specs.Told.{Told}
use Rattle.desk_io.specs.KeptFiles.{KeepsFile}
use Rattle.desk_io.specs.HeldFiles.{TellsNow}
use Rattle.term_core.specs.Patterns.{Pattern}
use Rattle.rule_core.specs.Theories.{RewriteTheory}
use Rattle.rule_core.specs.Runs.{Run, IsRunOf}
use Rattle.hint_file.specs.RunTexts.{IsHintTextOf}
use Rattle.kore_prove.specs.RunWords.{RunRequest, IsRun}
use Rattle.kore_prove.specs.Courses.{Call}
use Rattle.kore_prove.specs.Files.{HoldsRun}

-- the file holds a part from the front of a text
abbrev pub HoldsFrontOf : Option Told → Option Told → List ℕ → List ℕ → Type 0
HoldsFrontOf told told' file text =
    (front : List ℕ) × (rest : List ℕ) × (text ≡ front ++ rest) × TellsNow told told' file front

-- the file holds a part from the front of the hint text of the run of the initial term
pub record HoldsHintFront (told told' : Option Told) (file : List ℕ) (theory : RewriteTheory)
    (limit calls : ℕ) (start : Pattern) : Type 0 where
  pub run : Run
  pub is_run : IsRunOf theory limit calls start run
  pub text : List ℕ
  pub is_text : IsHintTextOf theory calls start run text
  pub holds : HoldsFrontOf told told' file text

-- the same, for the program and the initial term of the files, and the limits of the request
pub record HoldsHintFrontOfRun (asked : RunRequest) (told told' : Option Told) (file : List ℕ) :
    Type 0 where
  pub theory : RewriteTheory
  pub start : Pattern
  pub of_files : HoldsRun asked told theory start
  pub holds : HoldsHintFront told told' file theory asked.limit asked.calls start

-- if hints are wanted, their file is as before, or it was created and holds the front of them
abbrev pub LeavesHints : RunRequest → Option Told → Option Told → Type 0
LeavesHints asked told told' =
    (file : List ℕ) → asked.hints ≡ Some file
    → KeepsFile told told' file ⊎ HoldsHintFrontOfRun asked told told' file

-- the same if the words ask for a run, for every exit code
abbrev pub LeavesHintFront : Call → Type 0
LeavesHintFront c =
    (asked : RunRequest) → IsRun c.words asked
    → LeavesHints asked c.course.desk.told c.course.desk'.told
