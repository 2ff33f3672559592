use Rattle.std.proofs.Common.{◌≡◌, ℕ, Result, Ok, Err, IfOk, rules, sym, subst}
use Rattle.term_core.specs.RulePatterns.{plain_pattern}
use Rattle.rule_core.specs.ProgramView.{theory_of}
use Rattle.rule_core.specs.RunView.{cause_of}
use Rattle.rule_core.specs.Runs.{IsRunOf, Reaches}
use Rattle.rule_core.specs.RunCuts.{at_blocked_start}
use Rattle.rule_core.specs.declared.rules.Program.{Program}
use Rattle.fun_eval.specs.EvalEnds.{EndsBy}
use Rattle.hint_file.specs.HintTexts.{first_lines}
use Rattle.hint_file.specs.RunTexts.{AddsHintTextOf, AddsText}
use Rattle.prove_run.proofs.FileLaws.{on_err}
use Rattle.prove_run.specs.WrittenProofs.{WritesFrontOfProof}
use Rattle.run_loop.specs.RunEnds.{plain_run}
use Rattle.run_loop.specs.declared.ends.RunEnd.{RunEnd}
use Rattle.run_loop.specs.declared.ends.RunEnd.TheVariants as end
use Rattle.run_proof.specs.OpenProofs.{WritesFrontOfRun}
use Rattle.run_proof.specs.RunHints.{AddsStepsOf}
use Rattle.run_proof.proofs.LineLaws.{hints_unstarted, hints_whole}
use Rattle.run_proof.proofs.StepLaws.{front_of_run, none_of_run, on_err_more}
use Rattle.run_proof.proofs.proved.run_with_proof.Goals as goal

if_ok : {T E : Type 0} (P Q : T → Type 0) (r : Result T E) → ((t : T) → P t → Q t) → IfOk r P
    → IfOk r Q
if_ok P Q (Ok t) f h = f t h
if_ok P Q (Err e) f h = tt

pub returns-in-Ok-clause-run : goal.returns-in-Ok-clause-run
returns-in-Ok-clause-run g c =
    let theory = theory_of c.args.engine.now in
    let start = plain_pattern c.args.start.now in
    if_ok (λ r. (calls : ℕ) → Reaches theory start calls 0 c.in-Ok.run'.config c.in-Ok.run'.calls →
    IsRunOf theory c.args.limit calls start (plain_run r.0.end))
    (λ r. IsRunOf theory c.args.limit c.args.calls start (plain_run r.0.end)) c.started.result
    (λ r h. h c.args.calls c.in-Ok.ensures.starts) c.started.ensures.run

pub returns-in_err-start-clause-front : goal.returns-in_err-start-clause-front
returns-in_err-start-clause-front g c =
    let theory = theory_of c.args.engine.now in
    let start = plain_pattern c.args.start.now in
    let told = (g.D.Desk.state c.args.desk.now).told in
    on_err c.from_residual.result
    (WritesFrontOfRun told told theory c.args.limit c.args.calls start)
    (none_of_run told theory c.args.limit c.args.calls start
    (rw c.requires.file at (g.met.D.Desk.tells_created c.args.desk.now)))

-- lines 1 and 2, and then those of the steps
pub returns-in-Ok-clause-hints : goal.returns-in-Ok-clause-hints
returns-in-Ok-clause-hints g c =
    let theory = theory_of c.args.engine.now in
    let start = plain_pattern c.args.start.now in
    let first : AddsText (first_lines theory.sig start) c.args.hints.now c.start.new.self =
    subst (λ (p : Program). AddsText (first_lines p.sig start) c.args.hints.now c.start.new.self)
    c.program.ensures.program c.in_ok-start.ensures in
    if_ok (λ r. (calls : ℕ) → Reaches theory start calls 0 c.in-Ok.run'.config c.in-Ok.run'.calls →
    AddsStepsOf theory calls start (plain_run r.0.end) c.start.new.self c.started.new.hints)
    (λ r. AddsHintTextOf theory c.args.calls start (plain_run r.0.end) c.args.hints.now
    c.started.new.hints) c.started.result
    (λ r h. hints_whole theory start c.args.calls (plain_run r.0.end) c.args.hints.now c.start.new.self
    c.started.new.hints first (h c.args.calls c.in-Ok.ensures.starts)) c.started.ensures.hints

-- lines 1 and 2 alone
pub returns-in-Err-Blocked-clause-hints : goal.returns-in-Err-Blocked-clause-hints
returns-in-Err-Blocked-clause-hints g c =
    let theory = theory_of c.args.engine.now in
    let start = plain_pattern c.args.start.now in
    let first : AddsText (first_lines theory.sig start) c.args.hints.now c.start.new.self =
    subst (λ (p : Program). AddsText (first_lines p.sig start) c.args.hints.now c.start.new.self)
    c.program.ensures.program c.in_ok-start.ensures in
    if_ok (λ r. r.0.end ≡ end.Unstarted c.in-Err-Blocked.why)
    (λ r. AddsHintTextOf theory c.args.calls start (plain_run r.0.end) c.args.hints.now
    c.start.new.self) c.unstarted.result
    (λ r is. subst (λ (e : RunEnd). AddsHintTextOf theory c.args.calls start (plain_run e)
    c.args.hints.now c.start.new.self) (sym is)
    (hints_unstarted theory start c.args.calls (cause_of c.in-Err-Blocked.why) c.args.hints.now
    c.start.new.self first)) c.unstarted.ensures.end

pub returns-in-Ok-clause-front : goal.returns-in-Ok-clause-front
returns-in-Ok-clause-front g c =
    let theory = theory_of c.args.engine.now in
    let start = plain_pattern c.args.start.now in
    let old = (g.D.Desk.state c.args.desk.now).told in
    let new = (g.D.Desk.state c.started.new.desk).told in
    on_err_more c.started.result ((calls : ℕ)
    → Reaches theory start calls 0 c.in-Ok.run'.config c.in-Ok.run'.calls
    → WritesFrontOfRun old new theory c.args.limit calls start)
    (WritesFrontOfRun old new theory c.args.limit c.args.calls start)
    (λ h. h c.args.calls c.in-Ok.ensures.starts) c.started.ensures.front

pub returns-in-Err-Blocked-clause-front : goal.returns-in-Err-Blocked-clause-front
returns-in-Err-Blocked-clause-front g c =
    let theory = theory_of c.args.engine.now in
    let start = plain_pattern c.args.start.now in
    let old = (g.D.Desk.state c.args.desk.now).told in
    let new = (g.D.Desk.state c.unstarted.new.desk).told in
    on_err_more c.unstarted.result (WritesFrontOfProof old new theory start start)
    (WritesFrontOfRun old new theory c.args.limit c.args.calls start)
    (front_of_run old new theory c.args.limit c.args.calls start start
    (at_blocked_start {cause = cause_of c.in-Err-Blocked.why} (search rules)))
    c.unstarted.ensures.front

pub returns-in-Err-Memory-clause-front : goal.returns-in-Err-Memory-clause-front
returns-in-Err-Memory-clause-front g c =
    none_of_run (g.D.Desk.state c.args.desk.now).told (theory_of c.args.engine.now) c.args.limit
    c.args.calls (plain_pattern c.args.start.now)
    (rw c.requires.file at (g.met.D.Desk.tells_created c.args.desk.now))
