use Rattle.std.proofs.Common.{List, ◌∙◌, ap, map}
use Rattle.rule_core.specs.Records.{Miss, MissList, Record, condition_false}
use Rattle.rule_core.specs.RecordView.{misses, plain_record}
use Rattle.rule_core.specs.declared.records.Miss as code
use Rattle.fun_eval.specs.RecordLists.{last_missed, plain_missed}
use Rattle.fun_eval.proofs.Misses.{misses-push}
use Rattle.fun_eval.proofs.PlainRecords.{plain-CondFalse}
use Rattle.fun_eval.proofs.recording.EvalRecordRecording.failed.Goals as goal

pub returns : goal.returns
returns c = λ missed r others told.
    ap (λ (xs : List code.Miss). misses (map plain_missed xs)) c.in_ok-push.ensures.items
    ∙ (misses-push c.args.others.now.items _
    ∙ (ap (λ (miss : Miss). last_missed (misses (map plain_missed c.args.others.now.items)) miss)
    (plain-CondFalse c.args.subst c.args.cond)
    ∙ (ap (λ (ms : MissList). last_missed ms (condition_false c.args.subst
    (plain_record c.args.cond))) others
    ∙ ap (λ (s : Record). last_missed missed (condition_false c.args.subst s)) told)))
