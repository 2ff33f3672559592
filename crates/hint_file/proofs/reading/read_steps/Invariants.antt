use Rattle.std.proofs.Common.{◌≤◌, ◌+◌, ◌^◌, ◌++◌, List, map, length}
use Rattle.rule_core.specs.ProgramView.{theory_of}
use Rattle.rule_core.specs.Records.{StepRecord}
use Rattle.rule_core.specs.RecordView.{plain_step}
use Rattle.rewriter.specs.Configurations.{IsConfiguration}
use Rattle.hint_file.specs.HintFiles.{FileOutcome, ReadsSteps, RecordsLines}
use Rattle.hint_file.proofs.reading.read_steps.Given as goal

abbrev pub invariant-loop-rest : goal.invariant-loop-rest
invariant-loop-rest l = record {
  sorted : IsConfiguration (theory_of l.engine) l.last;
  few : l.number + length l.rest ≤ 2 ^ 32 + 3;
  reads : (r : FileOutcome) → ReadsSteps (theory_of l.engine) l.number l.last l.left l.rest r
      → ReadsSteps (theory_of l.engine) 3 l.fn.config l.fn.calls l.bytes r;
  recorded : (ss : List StepRecord) → RecordsLines (theory_of l.engine) l.last l.left l.rest ss
      → RecordsLines (theory_of l.engine) l.fn.config l.fn.calls l.bytes
      (map plain_step l.steps.items ++ ss);
}

abbrev pub decreases-loop-rest : goal.decreases-loop-rest
decreases-loop-rest l = length l.rest
