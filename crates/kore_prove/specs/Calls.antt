-- All that a call of the program does, as one fact.
use Rattle.std.specs.Prelude.{◌≡◌, ℕ, ◌⊎◌}
use Rattle.desk_io.specs.KeptFiles.{KeepsFiles, KeepsOthers}
use Rattle.kore_prove.specs.Words.{IsWrittenFile}
use Rattle.kore_prove.specs.BadWords.{AreBad}
use Rattle.kore_prove.specs.Courses.{Call}
use Rattle.kore_prove.specs.PrintedRun.{PrintsRun}
use Rattle.kore_prove.specs.ProvedRun.{ProvesRun}
use Rattle.kore_prove.specs.ShownRun.{ShowsStuckRun}
use Rattle.kore_prove.specs.RunFronts.{LeavesFrontOfRun}
use Rattle.kore_prove.specs.HintedRun.{HintsRun}
use Rattle.kore_prove.specs.HintFronts.{LeavesHintFront}
use Rattle.kore_prove.specs.ProvedPath.{ProvesPath, LeavesFrontOfPath}
use Rattle.kore_prove.specs.Verdicts.{PrintsVerdict}
use Rattle.kore_prove.specs.Checks.{PrintsCheck}
use Rattle.kore_prove.specs.DrilledRun.{Drills, LeavesFrontOfDrill}
use Rattle.kore_prove.specs.BegunLines.{StopsPrinting, FailsInPrinting}
use Rattle.kore_prove.specs.Causes.{Ends}
use Rattle.kore_prove.specs.CompleteRuns.{Completes}
use Rattle.kore_prove.specs.CompleteVerdicts.{CompletesVerdict}
use Rattle.kore_prove.specs.CompleteChecks.{CompletesCheck}
use Rattle.kore_prove.specs.CompletePaths.{CompletesPath}
use Rattle.kore_prove.specs.CompleteDrills.{CompletesDrill}
use Rattle.kore_prove.specs.Unwritten.{IsUnwritten}

-- a call with this exit code does what the clauses of `kore_main` with the same names say
pub record IsAnswered (c : Call) (code : ℕ) : Type 0 where
  pub printed_run : PrintsRun c code
  pub proved_run : ProvesRun c code
  pub shown_stuck : ShowsStuckRun c code
  pub proof_front : LeavesFrontOfRun c
  pub hinted_run : HintsRun c code
  pub hint_front : LeavesHintFront c
  pub verdict : PrintsVerdict c code
  pub checked : PrintsCheck c code
  pub proved_path : ProvesPath c code
  pub path_front : LeavesFrontOfPath c
  pub drilled : Drills c code
  pub drill_front : LeavesFrontOfDrill c
  pub ends : Ends c code
  pub stops_printing : StopsPrinting c code
  pub fails_in_printing : FailsInPrinting c code
  pub complete : Completes c code
  pub complete_verdict : CompletesVerdict c code
  pub complete_check : CompletesCheck c code
  pub complete_path : CompletesPath c code
  pub complete_drill : CompletesDrill c code
  pub bad_words : AreBad c.words → (code ≡ 2) ⊎ (code ≡ 1)
  pub others : KeepsOthers (IsWrittenFile c.words) c.course.desk.told c.course.desk'.told
  pub files : IsUnwritten code → KeepsFiles c.course.desk.told c.course.desk'.told
