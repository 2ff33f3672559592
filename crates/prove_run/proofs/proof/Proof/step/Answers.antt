use Rattle.std.proofs.Common.{inl, refl, subst}
use Rattle.desk_io.specs.Changes.{Writes, WritesFront}
use Rattle.rule_core.specs.Records.{result_of}
use Rattle.rule_core.specs.RecordView.{plain_step}
use Rattle.prove_run.specs.WrittenProofs.{EndsStep, WritesFrontAfter}
use Rattle.prove_run.proofs.FileLaws.{on_err, none_added, front_added, further_justified}
use Rattle.prove_run.proofs.proof.Proof.step.Goals as goal

pub returns-in_err-state_step-clause-front : goal.returns-in_err-state_step-clause-front
returns-in_err-state_step-clause-front g c =
    let told = (g.D.Desk.state c.args.desk.now).told in
    let ends = EndsStep c.args.self.now (result_of (plain_step c.args.step.now).right) in
    on_err c.from_residual.result (WritesFrontAfter told told c.args.self.now ends)
    (none_added told c.args.self.now ends (inl refl)
    (rw c.requires.file at (g.met.D.Desk.tells_created c.args.desk.now)))

pub returns-in-Ok-clause-justifies : goal.returns-in-Ok-clause-justifies
returns-in-Ok-clause-justifies g c =
    let old = (g.D.Desk.state c.args.desk.now).told in
    let new = (g.D.Desk.state c.write_text.new.desk).told in
    further_justified old new c.args.self.now c.state_step.new.self
    (result_of (plain_step c.args.step.now).right) (
      c.state_step.new.to.items,
      subst (Writes old new) c.deref.ensures.value c.in-Ok.ensures.written,
      c.in_ok-state_step.ensures.steps,
    )

pub returns-clause-front : goal.returns-clause-front
returns-clause-front g c =
    let old = (g.D.Desk.state c.args.desk.now).told in
    let new = (g.D.Desk.state c.write_text.new.desk).told in
    front_added old new c.args.self.now c.state_step.new.self
    (result_of (plain_step c.args.step.now).right) c.state_step.new.to.items
    (subst (WritesFront old new) c.deref.ensures.value c.in-Err.ensures.prefix)
    c.in_ok-state_step.ensures.steps
