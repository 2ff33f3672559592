use Rattle.std.proofs.Common.{refl}
use Rattle.rule_core.specs.ProgramView.{theory_of}
use Rattle.kore_rules.specs.Refused.{IsRefusedTerm}
use Rattle.kore_rules.specs.RefusedTexts.{top_of}
use Rattle.kore_prove.specs.Requests.{request}
use Rattle.kore_prove.proofs.Deciding.{definition_of_run}
use Rattle.kore_prove.proofs.Ending.{FileCause-kept}
use Rattle.kore_prove.proofs.reading.read_run.Goals as goal

pub returns-in-Err-clause-cause : goal.returns-in-Err-clause-cause
returns-in-Err-clause-cause g c =
    definition_of_run (request c.args.asked.now) (g.D.Desk.state c.args.desk.now).told
    (g.D.Desk.state c.args.desk.now).read_faults
    (g.D.Desk.state c.read_program.new.desk).read_faults _
    (c.definition_end.ensures (g.D.Desk.state c.args.desk.now).told
    (g.D.Desk.state c.args.desk.now).read_faults
    (g.D.Desk.state c.read_program.new.desk).read_faults c.in-Err.ensures.cause)

pub returns-in-Err-read_start-clause-cause : goal.returns-in-Err-read_start-clause-cause
returns-in-Err-read_start-clause-cause g c =
    let theory = theory_of c.in-Ok.program in
    let top = top_of c.in-Ok.program in
    let told = (g.D.Desk.state c.args.desk.now).told in
    let between = (g.D.Desk.state c.read_program.new.desk).told in
    c.term_end.ensures (request c.args.asked.now) told (g.D.Desk.state c.args.desk.now).read_faults
    (g.D.Desk.state c.read_start.new.desk).read_faults theory top refl c.in-Ok.ensures.found
    (FileCause-kept (IsRefusedTerm theory.sig top) told between _ _
    (g.D.Desk.state c.args.desk.now).read_faults
    (g.D.Desk.state c.read_program.new.desk).read_faults
    (g.D.Desk.state c.read_start.new.desk).read_faults c.in-Err-read_start.end c.in-Ok.ensures.files
    c.in-Ok.ensures.counts c.in-Err-read_start.ensures.cause)
