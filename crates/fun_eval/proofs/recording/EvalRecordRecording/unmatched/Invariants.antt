use Rattle.std.proofs.Common.{◌≡◌, map}
use Rattle.rule_core.specs.RecordView.{misses}
use Rattle.fun_eval.specs.RecordLists.{plain_missed, with_unmatched}
use Rattle.fun_eval.proofs.recording.EvalRecordRecording.unmatched.Given as goal

abbrev pub invariant-loop : goal.invariant-loop
invariant-loop l =
    misses (map plain_missed l.others.items)
    ≡ with_unmatched (misses (map plain_missed l.fn.others.items)) l.counter
