use Rattle.std.proofs.Common.{sym, subst}
use Rattle.std.proofs.lemmas.Result.{err_from_is_err_and}
use Rattle.term_core.specs.RulePatterns.{plain_pattern}
use Rattle.rule_core.specs.ProgramView.{theory_of}
use Rattle.rule_core.specs.declared.rules.Program.{Program}
use Rattle.run_loop.specs.RunEnds.{plain_run}
use Rattle.run_proof.specs.ClosedProofs.{PutsFront}
use Rattle.proof_writer.specs.PlainNames.{HasPlainNames}
use Rattle.run_proof.proofs.ClosedLaws.{put_front}
use Rattle.kore_prove.proofs.PlainNames.{plain_names}
use Rattle.kore_prove.proofs.running.proved_lines_of_run.Goals as goal

pub proved_run-requires-clause-names : goal.proved_run-requires-clause-names
proved_run-requires-clause-names g c =
    subst (λ (p : Program). HasPlainNames p.sig) (sym c.requires.program)
    (plain_names c.args.accepted.now.program.sig c.requires.runnable.program.names)

pub returns-in_err-proved-clause-front : goal.returns-in_err-proved-clause-front
returns-in_err-proved-clause-front g c =
    let old = (g.D.Desk.state c.args.desk.now).told in
    let new = (g.D.Desk.state c.proved_run.new.desk).told in
    let start = plain_pattern c.args.accepted.now.start in
    let p = err_from_is_err_and c.from_residual.result c.from_residual.ensures.1 in
    rw p.1 (subst (λ (p : Program). PutsFront old new (theory_of p) c.args.bounds.limit
    c.args.bounds.calls start) c.requires.program c.in_err-proved.ensures.front)

pub returns-in_err-lines-clause-front : goal.returns-in_err-lines-clause-front
returns-in_err-lines-clause-front g c =
    let old = (g.D.Desk.state c.args.desk.now).told in
    let new = (g.D.Desk.state c.proved_run.new.desk).told in
    let start = plain_pattern c.args.accepted.now.start in
    let p = err_from_is_err_and c.from_residual-in_err-lines.result
    c.from_residual-in_err-lines.ensures.1 in
    rw p.1 (subst (λ (p : Program). PutsFront old new (theory_of p) c.args.bounds.limit
    c.args.bounds.calls start) c.requires.program
    (put_front old new (theory_of c.args.engine.now) c.args.bounds.limit c.args.bounds.calls start
    (plain_run c.in_ok-proved.proved.end) c.in_ok-proved.summary c.in_ok-proved.proved.shown
    c.in_ok-proved.ensures.run c.in_ok-proved.ensures.justified))
