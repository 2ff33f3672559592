use Rattle.std.proofs.Common.{map}
use Rattle.rule_core.specs.RecordView.{misses}
use Rattle.fun_eval.specs.RecordLists.{plain_missed}
use Rattle.fun_eval.proofs.Misses.{one_unmatched_more}
use Rattle.fun_eval.proofs.recording.EvalRecordRecording.unmatched.Goals as goal

pub loop-preserved : goal.loop-preserved
loop-preserved c =
    one_unmatched_more c.loop.others.items c.push.new.self.items
    (misses (map plain_missed c.args.others.now.items)) c.loop.counter c.in_ok-push.ensures.items
    c.loop.invariant
