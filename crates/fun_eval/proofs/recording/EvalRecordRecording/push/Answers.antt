use Rattle.std.proofs.Common.{List, ◌∙◌, ap, map}
use Rattle.rule_core.specs.Records.{RecordList}
use Rattle.rule_core.specs.RecordView.{plain_record, records}
use Rattle.rule_core.specs.declared.records.EvalRecord.{EvalRecord}
use Rattle.fun_eval.specs.RecordLists.{at_end}
use Rattle.fun_eval.proofs.Recordings.{records-push}
use Rattle.fun_eval.proofs.recording.EvalRecordRecording.push.Goals as goal

pub returns : goal.returns
returns c =
    λ rs r all one. ap (λ (xs : List EvalRecord). records (map plain_record xs))
    c.in_ok-push.ensures.items
    ∙ (records-push c.args.others.now.items c.args.one
    ∙ (ap (λ (ss : RecordList). at_end ss (plain_record c.args.one)) all
    ∙ ap (at_end rs) one))
