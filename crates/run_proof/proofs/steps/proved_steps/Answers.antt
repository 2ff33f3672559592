use Rattle.std.proofs.Common.{ℕ, refl, sym, ◌∙◌, ap, arith}
use Rattle.term_core.specs.Patterns.{Pattern}
use Rattle.rule_core.specs.ProgramView.{theory_of}
use Rattle.rule_core.specs.RunView.{cause_of}
use Rattle.rule_core.specs.Runs.{Reaches}
use Rattle.rule_core.specs.RunCuts.{MayEndAt}
use Rattle.prove_run.specs.RunProof.{RunProof}
use Rattle.prove_run.proofs.FileLaws.{on_err}
use Rattle.prove_run.specs.WrittenProofs.{WritesFrontAfter}
use Rattle.run_proof.specs.ProvedSteps.{EndsNext}
use Rattle.run_proof.proofs.LineLaws.{no_lines_yet, one_line_more}
use Rattle.run_proof.proofs.StepLaws.{front_more, may_end, may_end_here}
use Rattle.run_proof.proofs.StepLaws.{one_more, counted, stays_on, goes_then, front_later}
use Rattle.run_proof.proofs.StepLaws.{front_so_far, stuck_run, stopped_run, limited_run, kept_config}
use Rattle.run_proof.proofs.steps.proved_steps.Goals as goal

pub loop-made-init : goal.loop-made-init
loop-made-init g c = record {
  created = c.requires.file;
  counts = omega arith;
  no_fault = refl;
  reads = refl;
  room = c.in_ok-slots.ensures.room;
  at = c.requires.at;
  goes =
      stays_on (g.D.Desk.state c.args.desk.now).told c.args.proof.now
      (rw c.requires.file at (g.met.D.Desk.tells_created c.args.desk.now));
  steps = c.requires.none_made;
  reached = λ start calls h. h;
  hinted = λ start calls h. no_lines_yet (theory_of c.args.engine.now) start calls c.args.hints.now
      c.args.run.now.config c.args.run.now.calls h;
}

pub loop-made-preserved : goal.loop-made-preserved
loop-made-preserved g c =
    let progress = rw c.in-Made.is at c.in_ok-proved_step.ensures.progress in
    let line = rw c.in-Made.is at c.in_ok-proved_step.ensures.hints in record {
      created = c.proved_step.ensures.created;
      counts = omega (arith, c.loop-made.invariant.counts, c.proved_step.ensures.counts);
      no_fault = c.in_ok-proved_step.ensures.no_fault ∙ c.loop-made.invariant.no_fault;
      reads = c.proved_step.ensures.reads ∙ c.loop-made.invariant.reads;
      room = c.proved_step.ensures.room;
      at = c.in_ok-proved_step.ensures.at;
      goes =
          goes_then (g.D.Desk.state c.args.desk.now).told (g.D.Desk.state c.loop-made.desk).told
          (g.D.Desk.state c.proved_step.new.desk).told c.args.proof.now c.loop-made.proof
          c.proved_step.new.proof c.loop-made.invariant.goes c.in_ok-proved_step.ensures.goes;
      steps =
          progress.1 ∙ counted c.loop-made.proof.steps c.loop-made.made c.args.limit
          c.loop-made.invariant.steps (omega arith) (omega arith);
      reached = λ start calls h. one_more _ start calls _ _ _ _ _
          (c.loop-made.invariant.reached start calls h) progress.0;
      hinted = λ start calls h. one_line_more (theory_of c.args.engine.now) start calls
          c.loop-made.made c.loop-made.run.calls c.proved_step.new.run.calls c.loop-made.run.config
          c.proved_step.new.run.config c.args.hints.now c.loop-made.hints c.proved_step.new.hints
          line.0 c.hint_laws.ensures.texts (c.loop-made.invariant.hinted start calls h) progress.0
          line.1 line.2 line.3;
    }

pub returns-in-Stuck-clause-goes : goal.returns-in-Stuck-clause-goes
returns-in-Stuck-clause-goes g c =
    goes_then (g.D.Desk.state c.args.desk.now).told (g.D.Desk.state c.loop-made.desk).told
    (g.D.Desk.state c.proved_step.new.desk).told c.args.proof.now c.loop-made.proof
    c.proved_step.new.proof c.loop-made.invariant.goes c.in_ok-proved_step.ensures.goes

pub returns-in-Stuck-clause-reached : goal.returns-in-Stuck-clause-reached
returns-in-Stuck-clause-reached g c =
    let progress = rw c.in-Stuck.is at c.in_ok-proved_step.ensures.progress in
    (kept_config c.args.engine.now c.loop-made.run c.proved_step.new.run c.proved_step.new.proof
    c.in-Stuck.last c.in_ok-proved_step.ensures.at progress.2 progress.1).0

pub returns-in-Stuck-clause-made : goal.returns-in-Stuck-clause-made
returns-in-Stuck-clause-made g c =
    let progress = rw c.in-Stuck.is at c.in_ok-proved_step.ensures.progress in
    ap (λ (p : RunProof). p.steps) progress.3 ∙ c.loop-made.invariant.steps

pub returns-in-Stuck-clause-run : goal.returns-in-Stuck-clause-run
returns-in-Stuck-clause-run g c =
    let progress = rw c.in-Stuck.is at c.in_ok-proved_step.ensures.progress in
    λ start calls h. stuck_run (theory_of c.args.engine.now) start calls c.args.limit
    c.loop-made.made c.loop-made.run c.in-Stuck.last (c.loop-made.invariant.reached start calls h)
    (omega arith) progress.0 progress.1

pub returns-in-Stuck-clause-sorted : goal.returns-in-Stuck-clause-sorted
returns-in-Stuck-clause-sorted g c =
    let progress = rw c.in-Stuck.is at c.in_ok-proved_step.ensures.progress in
    (kept_config c.args.engine.now c.loop-made.run c.proved_step.new.run c.proved_step.new.proof
    c.in-Stuck.last c.in_ok-proved_step.ensures.at progress.2 progress.1).1

pub returns-in-Blocked-clause-goes : goal.returns-in-Blocked-clause-goes
returns-in-Blocked-clause-goes g c =
    goes_then (g.D.Desk.state c.args.desk.now).told (g.D.Desk.state c.loop-made.desk).told
    (g.D.Desk.state c.proved_step.new.desk).told c.args.proof.now c.loop-made.proof
    c.proved_step.new.proof c.loop-made.invariant.goes c.in_ok-proved_step.ensures.goes

pub returns-in-Blocked-clause-reached : goal.returns-in-Blocked-clause-reached
returns-in-Blocked-clause-reached g c =
    let progress = rw c.in-Blocked.is at c.in_ok-proved_step.ensures.progress in
    (kept_config c.args.engine.now c.loop-made.run c.proved_step.new.run c.proved_step.new.proof
    c.in-Blocked.last c.in_ok-proved_step.ensures.at progress.2 progress.1).0

pub returns-in-Blocked-clause-made : goal.returns-in-Blocked-clause-made
returns-in-Blocked-clause-made g c =
    let progress = rw c.in-Blocked.is at c.in_ok-proved_step.ensures.progress in
    ap (λ (p : RunProof). p.steps) progress.3 ∙ c.loop-made.invariant.steps

pub returns-in-Blocked-clause-run : goal.returns-in-Blocked-clause-run
returns-in-Blocked-clause-run g c =
    let progress = rw c.in-Blocked.is at c.in_ok-proved_step.ensures.progress in
    λ start calls h. stopped_run (theory_of c.args.engine.now) start calls c.args.limit
    c.loop-made.made (cause_of c.in-Blocked.why) c.loop-made.run c.in-Blocked.last
    (c.loop-made.invariant.reached start calls h) (omega arith) progress.0 progress.1

pub returns-in-Blocked-clause-sorted : goal.returns-in-Blocked-clause-sorted
returns-in-Blocked-clause-sorted g c =
    let progress = rw c.in-Blocked.is at c.in_ok-proved_step.ensures.progress in
    (kept_config c.args.engine.now c.loop-made.run c.proved_step.new.run c.proved_step.new.proof
    c.in-Blocked.last c.in_ok-proved_step.ensures.at progress.2 progress.1).1

pub returns-in_err-tree-clause-front : goal.returns-in_err-tree-clause-front
returns-in_err-tree-clause-front g c =
    let told = (g.D.Desk.state c.args.desk.now).told in
    let created = rw c.requires.file at (g.met.D.Desk.tells_created c.args.desk.now) in
    on_err c.from_residual.result ((start : Pattern) (calls : ℕ)
    → Reaches (theory_of c.args.engine.now) start calls 0 c.args.run.now.config c.args.run.now.calls
    → WritesFrontAfter told told c.args.proof.now
    (MayEndAt (theory_of c.args.engine.now) c.args.limit calls start))
    (λ start calls h. front_so_far told told c.args.proof.now c.args.proof.now
    (MayEndAt (theory_of c.args.engine.now) c.args.limit calls start)
    (may_end_here c.args.engine.now c.args.limit calls 0 start c.args.run.now c.args.proof.now h
    (omega arith) c.requires.at)
    (stays_on told c.args.proof.now created) created)

pub returns-in_err-slots-clause-front : goal.returns-in_err-slots-clause-front
returns-in_err-slots-clause-front g c =
    let told = (g.D.Desk.state c.args.desk.now).told in
    let created = rw c.requires.file at (g.met.D.Desk.tells_created c.args.desk.now) in
    on_err c.from_residual-in_err-slots.result ((start : Pattern) (calls : ℕ)
    → Reaches (theory_of c.args.engine.now) start calls 0 c.args.run.now.config c.args.run.now.calls
    → WritesFrontAfter told told c.args.proof.now
    (MayEndAt (theory_of c.args.engine.now) c.args.limit calls start))
    (λ start calls h. front_so_far told told c.args.proof.now c.args.proof.now
    (MayEndAt (theory_of c.args.engine.now) c.args.limit calls start)
    (may_end_here c.args.engine.now c.args.limit calls 0 start c.args.run.now c.args.proof.now h
    (omega arith) c.requires.at)
    (stays_on told c.args.proof.now created) created)

pub returns-in_err-proved_step-clause-front : goal.returns-in_err-proved_step-clause-front
returns-in_err-proved_step-clause-front g c =
    on_err c.from_residual-in_err-proved_step.result ((start : Pattern) (calls : ℕ)
    → Reaches (theory_of c.args.engine.now) start calls 0 c.args.run.now.config c.args.run.now.calls
    → WritesFrontAfter (g.D.Desk.state c.args.desk.now).told
    (g.D.Desk.state c.proved_step.new.desk).told c.args.proof.now
    (MayEndAt (theory_of c.args.engine.now) c.args.limit calls start))
    (λ start calls h. front_later (g.D.Desk.state c.args.desk.now).told
    (g.D.Desk.state c.loop-made.desk).told (g.D.Desk.state c.proved_step.new.desk).told
    c.args.proof.now c.loop-made.proof
    (MayEndAt (theory_of c.args.engine.now) c.args.limit calls start) c.loop-made.invariant.goes
    (front_more (g.D.Desk.state c.loop-made.desk).told (g.D.Desk.state c.proved_step.new.desk).told
    c.loop-made.proof (EndsNext c.args.engine.now c.loop-made.run)
    (MayEndAt (theory_of c.args.engine.now) c.args.limit calls start)
    (may_end c.args.engine.now c.args.limit calls c.loop-made.made start c.loop-made.run
    (c.loop-made.invariant.reached start calls h) (omega arith))
    c.in_err-proved_step.ensures.front))

pub returns-in_err-share-clause-front : goal.returns-in_err-share-clause-front
returns-in_err-share-clause-front g c =
    on_err c.from_residual-in_err-share.result ((start : Pattern) (calls : ℕ)
    → Reaches (theory_of c.args.engine.now) start calls 0 c.args.run.now.config c.args.run.now.calls
    → WritesFrontAfter (g.D.Desk.state c.args.desk.now).told (g.D.Desk.state c.loop-made.desk).told
    c.args.proof.now (MayEndAt (theory_of c.args.engine.now) c.args.limit calls start))
    (λ start calls h. front_so_far (g.D.Desk.state c.args.desk.now).told
    (g.D.Desk.state c.loop-made.desk).told c.args.proof.now c.loop-made.proof
    (MayEndAt (theory_of c.args.engine.now) c.args.limit calls start)
    (may_end_here c.args.engine.now c.args.limit calls c.loop-made.made start c.loop-made.run
    c.loop-made.proof (c.loop-made.invariant.reached start calls h) (omega arith)
    c.loop-made.invariant.at)
    c.loop-made.invariant.goes
    (rw c.loop-made.invariant.created at (g.met.D.Desk.tells_created c.loop-made.desk)))

pub returns-clause-run : goal.returns-clause-run
returns-clause-run g c =
    λ start calls h. limited_run (theory_of c.args.engine.now) start calls c.args.limit
    c.loop-made.made c.loop-made.run c.in_ok-share.field-0
    (c.loop-made.invariant.reached start calls h) (omega arith)
    (c.in_ok-share.ensures.same ∙ c.config.ensures)
