-- What the output has of lines that were not printed as a whole. Nothing is sent before the proof
-- and the hints, if they are wanted, are whole in their files.
use Rattle.std.specs.Prelude.{◌≡◌, ℕ, ◌⊎◌, List}
use Rattle.desk_io.specs.SinkChanges.{SameBytes, AppendsFront}
use Rattle.term_core.specs.Patterns.{Pattern}
use Rattle.rule_core.specs.Theories.{RewriteTheory}
use Rattle.rule_core.specs.Runs.{Run}
use Rattle.kore_prove.specs.DrillWords.{DrillRequest, IsDrill}
use Rattle.kore_prove.specs.RunWords.{RunRequest, IsRun}
use Rattle.kore_prove.specs.VerifyWords.{IsVerify}
use Rattle.kore_prove.specs.CheckWords.{CheckRequest, IsCheck}
use Rattle.kore_prove.specs.Courses.{Course, Call}
use Rattle.kore_prove.specs.CountedFaults.{CountsWriteFault, CountsOutputFault}
use Rattle.kore_prove.specs.PrintedRun.{SendsLines}
use Rattle.kore_prove.specs.ProvedRun.{HasWantedProof}
use Rattle.kore_prove.specs.ShownRun.{HasWantedShown}
use Rattle.kore_prove.specs.HintedRun.{HasWantedHints}
use Rattle.kore_prove.specs.ProveWords.{ProveRequest, IsProve}
use Rattle.kore_prove.specs.ProvedPath.{SendsPath}
use Rattle.kore_prove.specs.Verdicts.{SendsValid, SendsInvalid}
use Rattle.kore_prove.specs.Checks.{SendsJustified, SendsUnjustified, SendsFault}
use Rattle.kore_prove.specs.DrilledRun.{SendsDrill}

-- the run was made, and its proof, with what it shows, and its hints were written if they are
-- wanted; the output got a part of its lines from the front
pub record BeginsRun (asked : RunRequest) (c : Course) : Type 0 where
  pub theory : RewriteTheory
  pub start : Pattern
  pub run : Run
  pub begun :
      SendsLines AppendsFront c.desk.told asked c.out.bytes c.out'.bytes theory start run
  pub proof : HasWantedProof asked.proof c.desk.told c.desk'.told theory start run
  pub shows : HasWantedShown asked.proof c.desk.told c.desk'.told theory run begun.shown
  pub hints : HasWantedHints asked.hints c.desk.told c.desk'.told theory asked.calls start run

-- the file was verified, and the output got a part of the line of the verdict from the front
abbrev pub BeginsVerdict : List ℕ → Course → Type 0
BeginsVerdict file c =
    SendsValid AppendsFront c.desk.told file c.out.bytes c.out'.bytes
    ⊎ SendsInvalid AppendsFront c.desk.told file c.out.bytes c.out'.bytes

-- it was decided what the database justifies, and the output got a part of the lines that say so from
-- the front
abbrev pub BeginsCheck : CheckRequest → Course → Type 0
BeginsCheck asked c =
    SendsJustified AppendsFront c.desk.told asked c.out.bytes c.out'.bytes
    ⊎ SendsFault AppendsFront c.desk.told asked c.out.bytes c.out'.bytes
    ⊎ SendsUnjustified AppendsFront c.desk.told asked c.out.bytes c.out'.bytes

-- the path was proved, and the output got a part of its lines from the front
abbrev pub BeginsPath : ProveRequest → Course → Type 0
BeginsPath asked c =
    SendsPath AppendsFront asked c.desk.told c.desk'.told c.out.bytes c.out'.bytes

-- the drill was made and proved, and the output got a part of its lines from the front
abbrev pub BeginsDrill : DrillRequest → Course → Type 0
BeginsDrill asked c =
    SendsDrill AppendsFront asked c.desk.told c.desk'.told c.out.bytes c.out'.bytes

-- the output got a part of the lines that the words ask for
pub data Begins (c : Call) : Type 0 where
  begins_run : {asked : RunRequest} → IsRun c.words asked → BeginsRun asked c.course → Begins c
  begins_verdict : {file : List ℕ} → IsVerify c.words file → BeginsVerdict file c.course → Begins c
  begins_check : {asked : CheckRequest} → IsCheck c.words asked → BeginsCheck asked c.course
      → Begins c
  begins_path : {asked : ProveRequest} → IsProve c.words asked → BeginsPath asked c.course
      → Begins c
  begins_drill : {asked : DrillRequest} → IsDrill c.words asked → BeginsDrill asked c.course
      → Begins c

-- with the exit codes 1 and 4 the output got nothing, or a part of the lines from the front
abbrev pub StopsPrinting : Call → ℕ → Type 0
StopsPrinting c code =
    (code ≡ 1) ⊎ (code ≡ 4)
    → SameBytes c.course.out.bytes c.course.out'.bytes ⊎ Begins c

-- With the exit code 4, if the desk counted no fault in writing, the output counted one. It got a
-- part of the lines from the front, and the proof and the hints, if they are wanted, are whole.
abbrev pub FailsInPrinting : Call → ℕ → Type 0
FailsInPrinting c code =
    code ≡ 4 → (CountsWriteFault c.course → ⊥) → CountsOutputFault c.course × Begins c
