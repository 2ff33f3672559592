use Rattle.rule_core.specs.ProgramView.{theory_of}
use Rattle.rewriter.proofs.StepRecords.{next_kept, next_recorded}
use Rattle.rewriter.proofs.run.Run.step.Goals as goal

pub returns-clause-recorded : goal.returns-clause-recorded
returns-clause-recorded c =
    next_recorded (theory_of c.args.engine.now) c.args.self.now.config c.step_as.new.self.config
    c.in_ok-next.next c.with_record.result c.with_record.ensures c.in_ok-next.ensures.recorded

pub returns-clause-kept : goal.returns-clause-kept
returns-clause-kept c =
    next_kept c.args.tree.now c.args.self.now.config c.step_as.new.slots c.in_ok-next.next
    c.with_record.result c.with_record.ensures c.in_ok-next.ensures.kept
