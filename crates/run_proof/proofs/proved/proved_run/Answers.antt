use Rattle.term_core.specs.RulePatterns.{plain_pattern}
use Rattle.rule_core.specs.ProgramView.{theory_of}
use Rattle.run_loop.specs.RunEnds.{plain_run}
use Rattle.run_proof.proofs.ClosedLaws.{front_closed, proof_closed, proof_written}
use Rattle.run_proof.proofs.proved.proved_run.Goals as goal

pub run_with_proof-requires-clause-ready : goal.run_with_proof-requires-clause-ready
run_with_proof-requires-clause-ready g c = record {
  bound = c.requires.bound;
  plain = c.requires.names;
  is_start = c.requires.start;
}

pub returns-in-Err-close-clause-front : goal.returns-in-Err-close-clause-front
returns-in-Err-close-clause-front g c =
    let old = (g.D.Desk.state c.args.desk.now).told in
    let mid = (g.D.Desk.state c.run_with_proof.new.desk).told in
    let theory = theory_of c.args.engine.now in
    let start = plain_pattern c.args.start.now in
    front_closed old mid (g.D.Desk.state c.close.new.desk).told theory c.args.limit c.args.calls start
    (proof_written old mid theory c.args.limit c.args.calls start (plain_run c.in-Ok.end.end)
    c.in-Ok.end.shown c.in-Ok.proof c.in-Ok.ensures.run c.in-Ok.ensures.proved)
    c.close.ensures.closes

pub returns-in-Err-clause-front : goal.returns-in-Err-clause-front
returns-in-Err-clause-front g c =
    front_closed (g.D.Desk.state c.args.desk.now).told
    (g.D.Desk.state c.run_with_proof.new.desk).told (g.D.Desk.state c.close_file-closed.new.self).told
    (theory_of c.args.engine.now) c.args.limit c.args.calls (plain_pattern c.args.start.now)
    c.in-Err.ensures.front
    c.close_file-closed.ensures.closes

pub returns-in-Ok-close-clause-justified : goal.returns-in-Ok-close-clause-justified
returns-in-Ok-close-clause-justified g c =
    proof_closed (g.D.Desk.state c.args.desk.now).told
    (g.D.Desk.state c.run_with_proof.new.desk).told (g.D.Desk.state c.close.new.desk).told
    (theory_of c.args.engine.now) (plain_pattern c.args.start.now) (plain_run c.in-Ok.end.end)
    c.in-Ok.end.shown c.in-Ok.proof c.in-Ok-close.summary c.in-Ok.ensures.proved
    c.close.ensures.closes c.in-Ok-close.ensures.summary
