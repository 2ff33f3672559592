use Rattle.std.proofs.Common.{ap}
use Rattle.std.specs.Prelude.{Err}
use Rattle.desk_io.specs.declared.desk.DeskFault.{DeskFault}
use Rattle.term_core.specs.RulePatterns.{plain_pattern}
use Rattle.rule_core.specs.ProgramView.{theory_of}
use Rattle.run_loop.specs.RunEnds.{plain_run}
use Rattle.kore_prove.specs.Requests.{request}
use Rattle.kore_prove.specs.PlainEnds.{plain_end}
use Rattle.kore_prove.proofs.Ending.{same_bytes}
use Rattle.kore_prove.proofs.Performing.{run_done, read_ended, proof_ended, lines_ended, rose_files}
use Rattle.kore_prove.proofs.call.run_command.Goals as goal

pub returns-in-Err-clause-ended : goal.returns-in-Err-clause-ended
returns-in-Err-clause-ended g c =
    read_ended (request c.args.asked.now) _ (plain_end c.in-Err.end) (same_bytes _)
    c.in-Err.ensures.cause c.read_run.ensures.files

pub returns-in-Err-made_lines-clause-ended : goal.returns-in-Err-made_lines-clause-ended
returns-in-Err-made_lines-clause-ended g c =
    proof_ended (request c.args.asked.now) _ _ c.in-Err-made_lines.fault
    (g.D.Desk.state c.read_run.new.desk).told (theory_of c.in-Ok.accepted.program)
    (plain_pattern c.in-Ok.accepted.start)
    c.write_end.ensures c.in-Ok.ensures.found c.in-Ok.ensures.files
    c.in-Err-made_lines.ensures.front c.in-Err-made_lines.ensures.hint_front
    c.in-Err-made_lines.ensures.files
    (λ is. rose_files _ _ _ c.in-Ok.ensures.writes
    (c.in-Err-made_lines.ensures.failed (ap (λ (f : DeskFault). Err f) is)))
    (same_bytes (g.O.Sink.state c.args.out.now).bytes)

pub returns-in-Ok-send_lines-clause-done : goal.returns-in-Ok-send_lines-clause-done
returns-in-Ok-send_lines-clause-done g c =
    run_done (request c.args.asked.now) _ (g.D.Desk.state c.read_run.new.desk).told
    (theory_of c.in-Ok.accepted.program) (plain_pattern c.in-Ok.accepted.start)
    (plain_run c.in-Ok-made_lines.made.end) c.in-Ok-made_lines.made.lines.items
    c.in-Ok-made_lines.made.shown
    c.in-Ok.ensures.found c.in-Ok.ensures.files c.in-Ok-made_lines.ensures.run
    c.in-Ok-made_lines.ensures.shown
    c.in-Ok-made_lines.ensures.proof c.in-Ok-made_lines.ensures.shows
    c.in-Ok-made_lines.ensures.hints
    c.in-Ok-made_lines.ensures.files
    (rw (← c.deref.ensures.value) c.in-Ok-send_lines.ensures.sent)

pub returns-clause-ended : goal.returns-clause-ended
returns-clause-ended g c =
    lines_ended (request c.args.asked.now) _ _ c.in-Err-send_lines.fault
    (g.D.Desk.state c.read_run.new.desk).told (theory_of c.in-Ok.accepted.program)
    (plain_pattern c.in-Ok.accepted.start) (plain_run c.in-Ok-made_lines.made.end)
    c.in-Ok-made_lines.made.lines.items c.in-Ok-made_lines.made.shown
    c.write_end-in-Err-send_lines.ensures c.in-Ok.ensures.found c.in-Ok.ensures.files
    c.in-Ok-made_lines.ensures.run c.in-Ok-made_lines.ensures.shown
    c.in-Ok-made_lines.ensures.proof c.in-Ok-made_lines.ensures.shows
    c.in-Ok-made_lines.ensures.hints c.in-Ok-made_lines.ensures.files
    (λ is. c.in-Err-send_lines.ensures.failed (ap (λ (f : DeskFault). Err f) is))
    (rw (← c.deref.ensures.value) c.in-Err-send_lines.ensures.prefix)
