use Rattle.std.proofs.Common.{ℕ, ◌∙◌, arith, rules, Some, sym, subst}
use Rattle.desk_io.proofs.Counts.{CountRose-later}
use Rattle.std.specs.Prelude.{option_copied}
use Rattle.term_core.specs.Terms.{Tree}
use Rattle.term_core.specs.Patterns.{ground_pattern}
use Rattle.term_core.specs.RulePatterns.{plain_pattern}
use Rattle.rule_core.specs.ProgramView.{theory_of}
use Rattle.rule_core.specs.Records.{result_of}
use Rattle.rule_core.specs.RecordView.{plain_record}
use Rattle.rule_core.specs.Runs.{Reaches}
use Rattle.rule_core.specs.RunCuts.{MayEndAt, at_configuration}
use Rattle.rule_core.specs.declared.rules.Program.{Program}
use Rattle.rewriter.specs.Configurations.{IsConfiguration}
use Rattle.run_loop.specs.RunEnds.{plain_run}
use Rattle.prove_run.proofs.FileLaws.{on_err}
use Rattle.prove_run.specs.WrittenProofs.{WritesFrontAfter, WritesFrontOfProof}
use Rattle.run_proof.specs.ProvedSteps.{IsProvedAt}
use Rattle.run_proof.specs.OpenProofs.{WritesFrontOfRun, WritesProof}
use Rattle.prove_run.specs.AddedLemmas.{EndsHere}
use Rattle.prove_term.proofs.ResultLaws.{if_ok, if_ok_two}
use Rattle.run_loop.specs.declared.ends.RunEnd.{RunEnd}
use Rattle.run_proof.proofs.ShownLaws.{begun_by, front_shown, whole_shown}
use Rattle.run_proof.proofs.StepLaws.{front_of_run, front_started, on_err_more, started_at}
use Rattle.run_proof.proofs.proved.started.Goals as goal

pub proved_steps-requires-clause-at : goal.proved_steps-requires-clause-at
proved_steps-requires-clause-at g c =
    subst (λ (p : Program). IsProvedAt p c.args.run c.in_ok-proof.proof) c.program.ensures.program
    (started_at c.program.result.now c.args.start.now c.args.run
    (result_of (plain_record c.args.evaluation.now)) c.in_ok-proof.proof
    (g.D.Desk.state c.args.desk.now).told (g.D.Desk.state c.begin.new.desk).told
    c.in_ok-proof.ensures.begins c.requires.value
    (subst (λ (p : Program). IsConfiguration (theory_of p) c.args.run.config)
    (sym c.program.ensures.program) c.requires.sorted))

pub proved_steps-requires-clause-none_made : goal.proved_steps-requires-clause-none_made
proved_steps-requires-clause-none_made g c = c.in_ok-proof.ensures.begins.2.none_made

pub returns-in_err-proof-clause-front : goal.returns-in_err-proof-clause-front
returns-in_err-proof-clause-front g c =
    let old = (g.D.Desk.state c.args.desk.now).told in
    let new = (g.D.Desk.state c.begin.new.desk).told in
    let theory = theory_of c.args.engine.now in
    let start = plain_pattern c.args.start.now in
    let value = result_of (plain_record c.args.evaluation.now) in
    on_err c.from_residual.result ((calls : ℕ)
    → Reaches theory start calls 0 c.args.run.config c.args.run.calls
    → WritesFrontOfRun old new theory c.args.limit calls start)
    (λ calls h. front_of_run old new theory c.args.limit calls start (ground_pattern value)
    (subst (λ (t : Tree). MayEndAt theory c.args.limit calls start (ground_pattern t))
    (sym c.requires.value) (at_configuration h (omega arith)))
    (subst (λ (p : Program). WritesFrontOfProof old new (theory_of p) start (ground_pattern value))
    c.program.ensures.program c.in_err-proof.ensures.front))

pub returns-in-Ok-clause-proved : goal.returns-in-Ok-clause-proved
returns-in-Ok-clause-proved g c =
    let old = (g.D.Desk.state c.args.desk.now).told in
    let new = (g.D.Desk.state c.shown_end.new.desk).told in
    let start = plain_pattern c.args.start.now in
    if_ok_two c.shown_end.result (λ r same adds. subst (λ (e : RunEnd).
    WritesProof old new (theory_of c.args.engine.now) start (plain_run e) r.0.shown r.1) (sym same)
    (whole_shown old (g.D.Desk.state c.begin.new.desk).told
    (g.D.Desk.state c.proved_steps.new.desk).told new c.args.engine.now c.args.start.now
    (Some (result_of (plain_record c.args.evaluation.now))) c.in_ok-proof.proof
    c.proved_steps.new.proof r.1 (plain_run c.in-Ok.end) r.0.shown
    (begun_by old (g.D.Desk.state c.begin.new.desk).told c.program.result.now c.args.engine.now
    c.args.start.now (Some (result_of (plain_record c.args.evaluation.now))) c.in_ok-proof.proof
    c.program.ensures.program c.in_ok-proof.ensures.begins)
    c.in-Ok.ensures.goes c.in-Ok.ensures.reached c.in-Ok.ensures.made adds))
    c.shown_end.ensures.same c.shown_end.ensures.adds

pub returns-in-Ok-clause-front : goal.returns-in-Ok-clause-front
returns-in-Ok-clause-front g c =
    let old = (g.D.Desk.state c.args.desk.now).told in
    let now = (g.D.Desk.state c.proved_steps.new.desk).told in
    let new = (g.D.Desk.state c.shown_end.new.desk).told in
    let theory = theory_of c.args.engine.now in
    let start = plain_pattern c.args.start.now in
    on_err_more c.shown_end.result
    (WritesFrontAfter now new c.proved_steps.new.proof (EndsHere c.proved_steps.new.proof))
    ((calls : ℕ) → Reaches theory start calls 0 c.args.run.config c.args.run.calls
    → WritesFrontOfRun old new theory c.args.limit calls start)
    (λ front calls h. front_shown old (g.D.Desk.state c.begin.new.desk).told now new
    c.args.engine.now c.args.start.now c.args.limit calls
    (Some (result_of (plain_record c.args.evaluation.now))) c.in_ok-proof.proof
    c.proved_steps.new.proof (plain_run c.in-Ok.end)
    (begun_by old (g.D.Desk.state c.begin.new.desk).told c.program.result.now c.args.engine.now
    c.args.start.now (Some (result_of (plain_record c.args.evaluation.now))) c.in_ok-proof.proof
    c.program.ensures.program c.in_ok-proof.ensures.begins)
    c.in-Ok.ensures.goes c.in-Ok.ensures.reached (c.in-Ok.ensures.run start calls h) front)
    c.shown_end.ensures.front

pub returns-clause-front : goal.returns-clause-front
returns-clause-front g c =
    let old = (g.D.Desk.state c.args.desk.now).told in
    let mid = (g.D.Desk.state c.begin.new.desk).told in
    let new = (g.D.Desk.state c.proved_steps.new.desk).told in
    let start = plain_pattern c.args.start.now in
    λ calls h. subst (λ (p : Program). WritesFrontOfRun old new (theory_of p) c.args.limit calls start)
    c.program.ensures.program
    (front_started old mid new c.program.result.now c.args.start.now c.args.limit calls
    (Some (result_of (plain_record c.args.evaluation.now))) c.in_ok-proof.proof
    c.in_ok-proof.ensures.begins
    (subst (λ (p : Program). WritesFrontAfter mid new c.in_ok-proof.proof
    (MayEndAt (theory_of p) c.args.limit calls start)) (sym c.program.ensures.program)
    (c.in-Err.ensures.front start calls h)))

pub returns-clause-failed : goal.returns-clause-failed
returns-clause-failed g c = λ h.
    CountRose-later (g.D.Desk.state c.args.desk.now).write_faults
    (g.D.Desk.state c.begin.new.desk).write_faults
    (g.D.Desk.state c.proved_steps.new.desk).write_faults c.begin.ensures.counts
    (c.in-Err.ensures.failed (search rules))

pub returns-in-Ok-clause-program : goal.returns-in-Ok-clause-program
returns-in-Ok-clause-program g c =
    if_ok c.shown_end.result (λ r adds. adds.same_program ∙ (c.in-Ok.ensures.goes.same_program
    ∙ (c.in_ok-proof.ensures.begins.2.same_program ∙ c.program.ensures.program)))
    c.shown_end.ensures.adds
