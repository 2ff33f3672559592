-- What the file of a proof shows of the end of a stuck run: that no rule applies to it.
use Rattle.std.specs.Prelude.{◌≡◌, ℕ, IsTrue, List, Option, Some, None}
use Rattle.desk_io.specs.Told.{Told}
use Rattle.desk_io.specs.HeldFiles.{TellsNow}
use Rattle.rule_core.specs.Theories.{RewriteTheory}
use Rattle.rule_core.specs.Runs.{Run}
use Rattle.run_proof.specs.ShownRules.{Shows}
use Rattle.kore_prove.specs.RunWords.{RunRequest, IsRun}
use Rattle.kore_prove.specs.Courses.{Call}
use Rattle.kore_prove.specs.PrintedRun.{IsCodeOfRun, IsPrinted}

-- the file shows so many rules unmet at the end of the run
pub record HoldsShown (told told' : Option Told) (file : List ℕ) (theory : RewriteTheory) (run : Run)
    (shown : Option ℕ) : Type 0 where
  pub bytes : List ℕ
  pub held : TellsNow told told' file bytes
  pub shows : Shows bytes theory run shown

-- if a proof is wanted, its file does
abbrev pub HasWantedShown : Option (List ℕ) → Option Told → Option Told → RewriteTheory → Run
    → Option ℕ → Type 0
HasWantedShown None told told' theory run shown = Unit {0}
HasWantedShown (Some file) told told' theory run shown =
    HoldsShown told told' file theory run shown

-- the third line of the printed run says how many rules this file shows unmet, which the words name
-- for the proof
pub record HasShownRun (words : List (List ℕ)) (told told' : Option Told)
    (before after : Option (List ℕ)) (code : ℕ) (file : List ℕ) : Type 0 where
  pub printed : IsPrinted words told before after code
  pub wanted : printed.asked.proof ≡ Some file
  pub asked : IsTrue printed.asked.stuck
  pub shown : HoldsShown told told' file printed.theory printed.run printed.printed.shown

-- the words are good, and ask for a run whose proof goes to this file and shows that a stuck run is
-- stuck
abbrev pub IsStuckRun : List (List ℕ) → List ℕ → Type 0
IsStuckRun words file =
    (asked : RunRequest) × IsRun words asked × (asked.proof ≡ Some file) × IsTrue asked.stuck

-- if the exit code is one of a run and the words ask for that, the file shows it
abbrev pub ShowsStuckRun : Call → ℕ → Type 0
ShowsStuckRun c code =
    IsCodeOfRun c.words code → (file : List ℕ) → IsStuckRun c.words file
    → HasShownRun c.words c.course.desk.told c.course.desk'.told c.course.out.bytes
    c.course.out'.bytes
    code file
