-- What the file of the hints holds: the hint text of the printed run.
use Rattle.std.specs.Prelude.{◌≡◌, ℕ, List, Option, Some, None}
use Rattle.desk_io.specs.Told.{Told}
use Rattle.desk_io.specs.HeldFiles.{TellsNow}
use Rattle.term_core.specs.Patterns.{Pattern}
use Rattle.rule_core.specs.Theories.{RewriteTheory}
use Rattle.rule_core.specs.Runs.{Run}
use Rattle.hint_file.specs.RunTexts.{IsHintTextOf}
use Rattle.kore_prove.specs.RunWords.{RunRequest, IsRun}
use Rattle.kore_prove.specs.Courses.{Call}
use Rattle.kore_prove.specs.PrintedRun.{IsCodeOfRun, IsPrinted}

-- the file holds exactly the hint text of the run's steps
pub record HoldsHints (told told' : Option Told) (file : List ℕ) (theory : RewriteTheory)
    (calls : ℕ) (start : Pattern) (run : Run) : Type 0 where
  pub text : List ℕ
  pub held : TellsNow told told' file text
  pub is_text : IsHintTextOf theory calls start run text

-- if hints are wanted, their file holds them
abbrev pub HasWantedHints : Option (List ℕ) → Option Told → Option Told → RewriteTheory → ℕ
    → Pattern → Run → Type 0
HasWantedHints None told told' theory calls start run = Unit {0}
HasWantedHints (Some file) told told' theory calls start run =
    HoldsHints told told' file theory calls start run

-- the hints of the printed run are in this file, which the words name
pub record HasHintedRun (words : List (List ℕ)) (told told' : Option Told)
    (before after : Option (List ℕ)) (code : ℕ) (file : List ℕ) : Type 0 where
  pub printed : IsPrinted words told before after code
  pub wanted : printed.asked.hints ≡ Some file
  pub hints : HoldsHints told told' file printed.theory printed.asked.calls printed.start
      printed.run

-- the words are good, and ask for a run whose hints go to this file
abbrev pub IsHintedRun : List (List ℕ) → List ℕ → Type 0
IsHintedRun words file = (asked : RunRequest) × IsRun words asked × (asked.hints ≡ Some file)

-- if the exit code is one of a run and the words name a file for its hints, they are there
abbrev pub HintsRun : Call → ℕ → Type 0
HintsRun c code =
    IsCodeOfRun c.words code → (file : List ℕ) → IsHintedRun c.words file
    → HasHintedRun c.words c.course.desk.told c.course.desk'.told c.course.out.bytes
    c.course.out'.bytes
    code file
