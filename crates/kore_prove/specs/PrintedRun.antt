-- What a call printed: the lines of the run for the files and the words.
use Rattle.std.specs.Prelude.{◌≡◌, ℕ, Bool, true, false, List, [], ◌∷◌, ◌++◌, Option, Some, None}
use Rattle.std.specs.Prelude.{◌⊎◌, codes, decimal}
use Rattle.desk_io.specs.Told.{Told}
use Rattle.desk_io.specs.Sent.{Appends}
use Rattle.term_core.specs.Patterns.{Pattern}
use Rattle.rule_core.specs.Theories.{RewriteTheory}
use Rattle.rule_core.specs.Runs.{Run, stuck, limited, stopped, unstarted}
use Rattle.run_lines.specs.Lines.{lines_of}
use Rattle.run_proof.specs.StuckRuns.{IsShown}
use Rattle.kore_prove.specs.DrillWords.{IsNoDrill}
use Rattle.kore_prove.specs.RunWords.{RunRequest, IsRun}
use Rattle.kore_prove.specs.VerifyWords.{IsNoVerify}
use Rattle.kore_prove.specs.CheckWords.{IsNoCheck}
use Rattle.kore_prove.specs.ProveWords.{IsNoProve}
use Rattle.kore_prove.specs.Courses.{Call}
use Rattle.kore_prove.specs.AcceptedRuns.{IsRunOfFiles}

-- the exit code of a run
abbrev pub code_of : Run → ℕ
code_of (stuck n t) = 0
code_of (limited n t) = 10
code_of (stopped n cause t) = 11
code_of (unstarted cause) = 11

-- a third line, if it is wanted: `shown R`, where the proof shows R rules unmet at the end of the
-- run, or `shown none`
abbrev pub shown_line : Bool → Option ℕ → List ℕ
shown_line true (Some rules) = codes "shown " ++ (decimal rules ++ (10 ∷ []))
shown_line true None = codes "shown none" ++ (10 ∷ [])
shown_line false shown = []

-- the output grew by the lines of the run for the files, or by a part from their front: `Grew` is
-- `Appends` or `AppendsFront`
pub record SendsLines (Grew : Option (List ℕ) → Option (List ℕ) → List ℕ → Type 0)
    (told : Option Told) (asked : RunRequest) (before after : Option (List ℕ))
    (theory : RewriteTheory) (start : Pattern) (run : Run) : Type 0 where
  pub of_files : IsRunOfFiles told asked theory start run
  pub lines : List ℕ
  pub lines_are : lines_of theory.sig start run ≡ Some lines
  pub shown : Option ℕ
  pub is_shown : IsShown asked.stuck theory run shown
  pub grew : Grew before after (lines ++ shown_line asked.stuck shown)

-- the output grew by the lines of the run for the files
abbrev pub PrintsLines : Option Told → RunRequest → Option (List ℕ) → Option (List ℕ)
    → RewriteTheory → Pattern → Run → Type 0
PrintsLines = SendsLines Appends

-- the words ask for a run, its lines were printed, and the code is the one of its end
pub record IsPrinted (words : List (List ℕ)) (told : Option Told) (before after : Option (List ℕ))
    (code : ℕ) : Type 0
  where
    pub asked : RunRequest
    pub command : IsRun words asked
    pub theory : RewriteTheory
    pub start : Pattern
    pub run : Run
    pub printed : PrintsLines told asked before after theory start run
    pub code_is : code ≡ code_of run

-- the exit code is one of a run; 0 is also the code of other commands
abbrev pub IsCodeOfRun : List (List ℕ) → ℕ → Type 0
IsCodeOfRun words code =
    (code ≡ 10) ⊎ (code ≡ 11)
    ⊎ ((code ≡ 0) × IsNoVerify words × IsNoCheck words × IsNoProve words × IsNoDrill words)

-- With the exit code of a run, a run was printed. If the output tells nothing, nothing is said of
-- the lines. If the desk tells nothing, nothing is said of the contents of its files.
abbrev pub PrintsRun : Call → ℕ → Type 0
PrintsRun c code =
    IsCodeOfRun c.words code
    → IsPrinted c.words c.course.desk.told c.course.out.bytes c.course.out'.bytes code
