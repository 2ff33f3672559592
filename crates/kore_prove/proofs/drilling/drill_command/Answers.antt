use Rattle.std.proofs.Common.{ap}
use Rattle.std.specs.Prelude.{Err}
use Rattle.desk_io.specs.declared.desk.DeskFault.{DeskFault}
use Rattle.term_core.specs.RulePatterns.{plain_pattern}
use Rattle.rule_core.specs.ProgramView.{theory_of}
use Rattle.run_loop.specs.RunEnds.{plain_run}
use Rattle.kore_prove.specs.Courses.{Course, course_of}
use Rattle.kore_prove.specs.Requests.{drill_request}
use Rattle.kore_prove.proofs.Ending.{same_bytes, same_files}
use Rattle.kore_prove.proofs.Drills.{drill_made, texts_ended, drill_ended_unproved}
use Rattle.kore_prove.proofs.Drills.{drill_ended_unprinted}
use Rattle.kore_prove.proofs.drilling.drill_command.Goals as goal

pub returns-in-Err-clause-ended : goal.returns-in-Err-clause-ended
returns-in-Err-clause-ended g c =
    let course : Course =
    course_of (g.D.Desk.state c.args.desk.now) (g.D.Desk.state c.args.desk.now)
    (g.O.Sink.state c.args.out.now) (g.O.Sink.state c.args.out.now) in
    texts_ended (drill_request c.args.asked.now) course (same_bytes _) (same_files _)

pub returns-in-Err-proved_lines-clause-ended : goal.returns-in-Err-proved_lines-clause-ended
returns-in-Err-proved_lines-clause-ended g c =
    drill_ended_unproved (drill_request c.args.asked.now) _ _ c.in-Err-proved_lines.fault
    (theory_of c.in-Ok.accepted.program) (plain_pattern c.in-Ok.accepted.start)
    c.write_end.ensures c.in-Ok.ensures.program c.in-Err-proved_lines.ensures.front
    c.in-Err-proved_lines.ensures.files
    (λ is. c.in-Err-proved_lines.ensures.failed (ap (λ (f : DeskFault). Err f) is))
    (same_bytes (g.O.Sink.state c.args.out.now).bytes)

pub returns-in-Ok-send_lines-clause-done : goal.returns-in-Ok-send_lines-clause-done
returns-in-Ok-send_lines-clause-done g c =
    drill_made (drill_request c.args.asked.now) _ (theory_of c.in-Ok.accepted.program)
    (plain_pattern c.in-Ok.accepted.start) (plain_run c.in-Ok-proved_lines.proved.end)
    c.in-Ok-proved_lines.proved.lines.items c.in-Ok-proved_lines.proved.shown
    c.in-Ok-proved_lines.proved.summary c.in-Ok.ensures.program c.in-Ok-proved_lines.ensures.run c.in-Ok-proved_lines.ensures.proof
    c.in-Ok-proved_lines.ensures.files
    (rw (← c.deref.ensures.value) c.in-Ok-send_lines.ensures.sent)

pub returns-clause-ended : goal.returns-clause-ended
returns-clause-ended g c =
    drill_ended_unprinted (drill_request c.args.asked.now) _ _ c.in-Err-send_lines.fault
    (theory_of c.in-Ok.accepted.program) (plain_pattern c.in-Ok.accepted.start)
    (plain_run c.in-Ok-proved_lines.proved.end) c.in-Ok-proved_lines.proved.lines.items
    c.in-Ok-proved_lines.proved.shown c.in-Ok-proved_lines.proved.summary c.write_end-in-Err-send_lines.ensures
    c.in-Ok.ensures.program c.in-Ok-proved_lines.ensures.run c.in-Ok-proved_lines.ensures.proof
    c.in-Ok-proved_lines.ensures.files
    (λ is. c.in-Err-send_lines.ensures.failed (ap (λ (f : DeskFault). Err f) is))
    (rw (← c.deref.ensures.value) c.in-Err-send_lines.ensures.prefix)
