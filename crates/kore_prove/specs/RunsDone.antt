-- What the private functions return that run a program, print and prove the run, prove a path, or
-- drill.
use Rattle.std.specs.Prelude.{◌≡◌, ℕ, List, Some}
use Rattle.term_core.specs.Patterns.{Pattern}
use Rattle.rule_core.specs.Theories.{RewriteTheory}
use Rattle.rule_core.specs.Runs.{Run, IsRunOf}
use Rattle.run_lines.specs.Lines.{lines_of}
use Rattle.kore_prove.specs.DrillWords.{DrillRequest}
use Rattle.kore_prove.specs.RunWords.{RunRequest}
use Rattle.kore_prove.specs.ProveWords.{ProveRequest}
use Rattle.kore_prove.specs.Causes.{RunCause, PathCause, DrillCause}
use Rattle.kore_prove.specs.Courses.{Course}
use Rattle.kore_prove.specs.PrintedRun.{PrintsLines}
use Rattle.kore_prove.specs.ProvedRun.{HasWantedProof}
use Rattle.kore_prove.specs.ShownRun.{HasWantedShown}
use Rattle.kore_prove.specs.RunFronts.{LeavesFront}
use Rattle.kore_prove.specs.HintedRun.{HasWantedHints}
use Rattle.kore_prove.specs.HintFronts.{LeavesHints}
use Rattle.kore_prove.specs.ProvedPath.{SendsPath, LeavesPath}
use Rattle.desk_io.specs.Sent.{Appends}
use Rattle.desk_io.specs.KeptFiles.{KeepsOthers}
use Rattle.kore_prove.specs.DrilledRun.{IsDrilled, LeavesDrill}
use Rattle.kore_prove.specs.Reports.{Ending}
use Rattle.kore_prove.specs.declared.running.Bounds.{Bounds}
use Rattle.kore_prove.specs.Requests.{IsWrittenBy, IsPathFile, IsDrillFile}

-- the lines are the two lines of the run within these bounds
pub record HasLines (bounds : Bounds) (theory : RewriteTheory) (start : Pattern) (run : Run)
    (lines : List ℕ) :
    Type 0 where
  pub is_run : IsRunOf theory bounds.limit bounds.calls start run
  pub lines_are : lines_of theory.sig start run ≡ Some lines

-- the run was printed, and its proof, with what it shows, and its hints were written if they are
-- wanted
pub record IsRunDone (asked : RunRequest) (c : Course) (run : Run) : Type 0 where
  pub theory : RewriteTheory
  pub start : Pattern
  pub printed : PrintsLines c.desk.told asked c.out.bytes c.out'.bytes theory start run
  pub proof : HasWantedProof asked.proof c.desk.told c.desk'.told theory start run
  pub shows : HasWantedShown asked.proof c.desk.told c.desk'.told theory run printed.shown
  pub hints : HasWantedHints asked.hints c.desk.told c.desk'.told theory asked.calls start run
  pub others : KeepsOthers (IsWrittenBy asked) c.desk.told c.desk'.told

-- no run was printed
pub record IsRunEnded (asked : RunRequest) (c : Course) (e : Ending) : Type 0 where
  pub cause : RunCause asked c e
  pub front : LeavesFront asked c.desk.told c.desk'.told
  pub hint_front : LeavesHints asked c.desk.told c.desk'.told
  pub others : KeepsOthers (IsWrittenBy asked) c.desk.told c.desk'.told

-- the path was proved and printed
pub record IsPathDone (asked : ProveRequest) (c : Course) : Type 0 where
  pub sent : SendsPath Appends asked c.desk.told c.desk'.told c.out.bytes c.out'.bytes
  pub others : KeepsOthers (IsPathFile asked) c.desk.told c.desk'.told

-- the path was not proved
pub record IsPathEnded (asked : ProveRequest) (c : Course) (e : Ending) : Type 0 where
  pub cause : PathCause asked c e
  pub front : LeavesPath asked c.desk.told c.desk'.told
  pub others : KeepsOthers (IsPathFile asked) c.desk.told c.desk'.told

-- the drill was made and printed
pub record IsDrillDone (asked : DrillRequest) (c : Course) : Type 0 where
  pub drilled : IsDrilled asked c.desk.told c.desk'.told c.out.bytes c.out'.bytes
  pub others : KeepsOthers (IsDrillFile asked) c.desk.told c.desk'.told

-- the drill was not made
pub record IsDrillEnded (asked : DrillRequest) (c : Course) (e : Ending) : Type 0 where
  pub cause : DrillCause asked c e
  pub front : LeavesDrill asked c.desk.told c.desk'.told
  pub others : KeepsOthers (IsDrillFile asked) c.desk.told c.desk'.told
