use Rattle.term_core.specs.RulePatterns.{plain_pattern}
use Rattle.rule_core.specs.ProgramView.{theory_of}
use Rattle.path_proof.specs.RecordedPaths.{first_of, steps_of}
use Rattle.path_proof.proofs.PathLaws.{path_front, path_front_closed}
use Rattle.path_proof.proofs.proved.proved_path.Goals as goal

pub returns-in-Err-close-clause-front : goal.returns-in-Err-close-clause-front
returns-in-Err-close-clause-front g c =
    let old = (g.D.Desk.state c.args.desk.now).told in
    let mid = (g.D.Desk.state c.open_proof.new.desk).told in
    let theory = theory_of c.args.program.now in
    let start = plain_pattern c.args.path.now.start in
    let first = first_of c.args.path.now in
    let steps = steps_of c.args.path.now in
    path_front_closed old mid (g.D.Desk.state c.close.new.desk).told theory start first steps
    (path_front old mid theory start first steps c.in-Ok.ensures.proved) c.close.ensures.closes
