use Rattle.std.proofs.Common.{◌≤◌, inl, refl, ap, ◌∙◌, subst, arith}
use Rattle.term_core.specs.Terms.{Tree, height}
use Rattle.rule_core.specs.Evaluation.{most_height}
use Rattle.rule_core.specs.Records.{result_of}
use Rattle.rule_core.specs.RecordView.{plain_step}
use Rattle.prove_run.specs.WrittenProofs.{EndsStep, WritesFrontAfter}
use Rattle.prove_run.proofs.FileLaws.{on_err, none_added}
use Rattle.run_proof.specs.ProvedSteps.{EndsNext}
use Rattle.run_proof.proofs.StepLaws.{ends_next, front_more, front_stepped}
use Rattle.run_proof.proofs.StepLaws.{can_step, proved_at, goes_step, stays_on, same_place}
use Rattle.run_proof.proofs.steps.proved_step.Goals as goal

pub step-requires-clause-config : goal.step-requires-clause-config
step-requires-clause-config g c = c.requires.at.sorted

pub step-requires-in-Made-clause-applies : goal.step-requires-in-Made-clause-applies
step-requires-in-Made-clause-applies g c =
    let low : height c.config.result.now ≤ most_height =
    omega (arith, c.height-high.ensures.value, c.height-high.ensures.bound) in
    let low' : height c.args.run.now.config ≤ most_height =
    subst (λ (t : Tree). height t ≤ most_height) c.config.ensures low in
    can_step c.args.engine.now c.args.run.now c.args.proof.now (plain_step c.in-Made.step)
    c.requires.at low' (rw c.in-Made.is at c.in_ok-step.ensures.recorded).0

pub returns-in_err-step-clause-front : goal.returns-in_err-step-clause-front
returns-in_err-step-clause-front g c =
    let told = (g.D.Desk.state c.args.desk.now).told in
    let ends = EndsNext c.args.engine.now c.args.run.now in
    on_err c.from_residual.result (WritesFrontAfter told told c.args.proof.now ends)
    (none_added told c.args.proof.now ends (inl c.requires.at.is_reached)
    (rw c.requires.file at (g.met.D.Desk.tells_created c.args.desk.now)))

pub returns-in_err-share-in-Stuck-clause-front : goal.returns-in_err-share-in-Stuck-clause-front
returns-in_err-share-in-Stuck-clause-front g c =
    let told = (g.D.Desk.state c.args.desk.now).told in
    let ends = EndsNext c.args.engine.now c.args.run.now in
    on_err c.from_residual-in_err-share-in-Stuck.result (WritesFrontAfter told told c.args.proof.now ends)
    (none_added told c.args.proof.now ends (inl c.requires.at.is_reached)
    (rw c.requires.file at (g.met.D.Desk.tells_created c.args.desk.now)))

pub returns-in_err-share-in-Blocked-clause-front : goal.returns-in_err-share-in-Blocked-clause-front
returns-in_err-share-in-Blocked-clause-front g c =
    let told = (g.D.Desk.state c.args.desk.now).told in
    let ends = EndsNext c.args.engine.now c.args.run.now in
    on_err c.from_residual-in_err-share-in-Blocked.result (WritesFrontAfter told told c.args.proof.now ends)
    (none_added told c.args.proof.now ends (inl c.requires.at.is_reached)
    (rw c.requires.file at (g.met.D.Desk.tells_created c.args.desk.now)))

pub returns-in-Stuck-clause-goes : goal.returns-in-Stuck-clause-goes
returns-in-Stuck-clause-goes g c =
    stays_on (g.D.Desk.state c.args.desk.now).told c.args.proof.now
    (rw c.requires.file at (g.met.D.Desk.tells_created c.args.desk.now))

pub returns-clause-goes : goal.returns-clause-goes
returns-clause-goes g c =
    stays_on (g.D.Desk.state c.args.desk.now).told c.args.proof.now
    (rw c.requires.file at (g.met.D.Desk.tells_created c.args.desk.now))

-- the step is one of the run
pub returns-in-Made-clause-front : goal.returns-in-Made-clause-front
returns-in-Made-clause-front g c =
    let old = (g.D.Desk.state c.args.desk.now).told in
    let new = (g.D.Desk.state c.step-in-Made.new.desk).told in
    front_more old new c.args.proof.now
    (EndsStep c.args.proof.now (result_of (plain_step c.in-Made.step).right))
    (EndsNext c.args.engine.now c.args.run.now)
    (ends_next c.args.engine.now c.args.run.now c.step.new.self c.args.proof.now
    (plain_step c.in-Made.step) c.requires.at (rw c.in-Made.is at c.in_ok-step.ensures.next)
    (rw c.in-Made.is at c.in_ok-step.ensures.recorded).1)
    c.in-Err.ensures.front

-- the step was made, and its line was not
pub returns-in_err-push-in-Ok-clause-front : goal.returns-in_err-push-in-Ok-clause-front
returns-in_err-push-in-Ok-clause-front g c =
    let old = (g.D.Desk.state c.args.desk.now).told in
    let new = (g.D.Desk.state c.step-in-Made.new.desk).told in
    on_err c.from_residual-in_err-push-in-Ok.result
    (WritesFrontAfter old new c.args.proof.now (EndsNext c.args.engine.now c.args.run.now))
    (front_stepped c.args.engine.now c.args.run.now c.step.new.self c.args.proof.now
    c.step-in-Made.new.self (plain_step c.in-Made.step) old new c.in-Ok.ensures.steps
    (rw c.in-Made.is at c.in_ok-step.ensures.next)
    (rw c.in-Made.is at c.in_ok-step.ensures.recorded).1
    (rw c.step-in-Made.ensures.created at (g.met.D.Desk.tells_created c.step-in-Made.new.desk)))
