use Rattle.std.proofs.Common.{◌≡◌, Some, Result, Ok, Err, IfOk}
use Rattle.std.proofs.lemmas.Result.{err_from_is_err_and}
use Rattle.term_core.specs.RulePatterns.{plain_pattern}
use Rattle.rule_core.specs.ProgramView.{theory_of}
use Rattle.run_loop.specs.RunEnds.{plain_run}
use Rattle.run_proof.specs.ClosedProofs.{PutsFront, PutsProof}
use Rattle.kore_prove.specs.ProofFiles.{HoldsCounted, MayHoldFront}
use Rattle.kore_prove.proofs.FileProofs.{created_proof, created_front, created_others, not_created}
use Rattle.kore_prove.proofs.FileProofs.{on_err_more, same_itself, same_others}
use Rattle.kore_prove.proofs.proof_file.proved_lines.Goals as goal

if_ok : {T E : Type 0} (r : Result T E) (P Q : T → Type 0) → ((t : T) → P t → Q t) → IfOk r P
    → IfOk r Q
if_ok (Ok t) P Q f h = f t h
if_ok (Err e) P Q f h = tt

pub returns-clause-proof : goal.returns-clause-proof
returns-clause-proof g c =
    let old = (g.D.Desk.state c.args.desk.now).told in
    let made = (g.D.Desk.state c.create_file.new.self).told in
    let new = (g.D.Desk.state c.proved_lines_of_run.new.desk).told in
    let theory = theory_of c.args.accepted.now.program in
    let start = plain_pattern c.args.accepted.now.start in
    if_ok c.proved_lines_of_run.result
    (λ r. PutsProof made new theory start (plain_run r.end) r.summary r.shown)
    (λ r. HoldsCounted old new c.args.file.now theory start (plain_run r.end) r.shown r.summary)
    (λ r h. created_proof old made new c.args.file.now theory start (plain_run r.end) r.shown
    r.summary
    c.in_ok-create_file.ensures.creates h) c.proved_lines_of_run.ensures.proof

pub returns-clause-front : goal.returns-clause-front
returns-clause-front g c =
    let old = (g.D.Desk.state c.args.desk.now).told in
    let made = (g.D.Desk.state c.create_file.new.self).told in
    let new = (g.D.Desk.state c.proved_lines_of_run.new.desk).told in
    let theory = theory_of c.args.accepted.now.program in
    let start = plain_pattern c.args.accepted.now.start in
    on_err_more c.proved_lines_of_run.result (PutsFront made new theory c.args.bounds.limit
    c.args.bounds.calls start)
    (MayHoldFront old new c.args.file.now theory c.args.bounds.limit c.args.bounds.calls start)
    (λ h. created_front old made new c.args.file.now theory c.args.bounds.limit c.args.bounds.calls
    start
    c.in_ok-create_file.ensures.creates h)
    c.proved_lines_of_run.ensures.front

pub returns-clause-files : goal.returns-clause-files
returns-clause-files g c =
    created_others (g.D.Desk.state c.args.desk.now).told
    (g.D.Desk.state c.create_file.new.self).told
    (g.D.Desk.state c.proved_lines_of_run.new.desk).told c.args.file.now
    c.in_ok-create_file.ensures.creates
    c.proved_lines_of_run.ensures.files

-- ---- without memory for an engine no file is created

pub returns-in_err-engine-clause-front : goal.returns-in_err-engine-clause-front
returns-in_err-engine-clause-front g c =
    let told = (g.D.Desk.state c.args.desk.now).told in
    let p = err_from_is_err_and c.from_residual.result c.from_residual.ensures.1 in
    rw p.1 (not_created told told c.args.file.now (theory_of c.args.accepted.now.program)
    c.args.bounds.limit c.args.bounds.calls (plain_pattern c.args.accepted.now.start)
    (same_itself told))

pub returns-in_err-engine-clause-files : goal.returns-in_err-engine-clause-files
returns-in_err-engine-clause-files g c =
    let told = (g.D.Desk.state c.args.desk.now).told in
    same_others (λ other. Some c.args.file.now ≡ Some other) told told (same_itself told)
