use Rattle.std.proofs.Common.{ap}
use Rattle.std.specs.Prelude.{Err}
use Rattle.desk_io.specs.declared.desk.DeskFault.{DeskFault}
use Rattle.kore_prove.specs.Requests.{prove_request}
use Rattle.kore_prove.specs.PlainEnds.{plain_end}
use Rattle.kore_prove.proofs.Ending.{kept_then, same_bytes}
use Rattle.kore_prove.proofs.PathFiles.{definition_of_path, hints_of_path, path_held, path_done}
use Rattle.kore_prove.proofs.PathFiles.{path_unlisted, path_cut, path_unsent}
use Rattle.kore_prove.proofs.Performing.{rose_files}
use Rattle.kore_prove.proofs.proving.prove_command.Goals as goal

pub returns-in-Err-clause-ended : goal.returns-in-Err-clause-ended
returns-in-Err-clause-ended g c =
    let asked = prove_request c.args.asked.now in
    let before = g.D.Desk.state c.args.desk.now in
    let after = g.D.Desk.state c.read_program.new.desk in
    path_unlisted asked _ _ (same_bytes _)
    (definition_of_path asked before.told before.read_faults after.read_faults _
    (c.definition_end.ensures before.told before.read_faults after.read_faults
    c.in-Err.ensures.cause))
    c.in-Err.ensures.files

pub returns-in-Err-read_path-clause-ended : goal.returns-in-Err-read_path-clause-ended
returns-in-Err-read_path-clause-ended g c =
    let asked = prove_request c.args.asked.now in
    let before = g.D.Desk.state c.args.desk.now in
    let between = g.D.Desk.state c.read_program.new.desk in
    let after = g.D.Desk.state c.read_path.new.desk in
    path_unlisted asked _ _ (same_bytes _)
    (hints_of_path asked before.told between.told c.in-Ok.program before.read_faults
    between.read_faults after.read_faults (plain_end c.in-Err-read_path.end)
    c.in-Ok.ensures.found c.in-Ok.ensures.files c.in-Ok.ensures.counts
    c.in-Err-read_path.ensures.cause)
    (kept_then before.told between.told after.told c.in-Ok.ensures.files
    c.in-Err-read_path.ensures.files)

pub returns-in-Err-proved_path_lines-clause-ended :
    goal.returns-in-Err-proved_path_lines-clause-ended
returns-in-Err-proved_path_lines-clause-ended g c =
    let asked = prove_request c.args.asked.now in
    let before = g.D.Desk.state c.args.desk.now in
    let between = g.D.Desk.state c.read_program.new.desk in
    let read = g.D.Desk.state c.read_path.new.desk in
    path_cut asked _ _ c.in-Err-proved_path_lines.fault read.told c.in-Ok.program
    c.in-Ok-read_path.path c.write_end.ensures
    (path_held asked before.told between.told c.in-Ok.program c.in-Ok-read_path.path
    c.in-Ok.ensures.found c.in-Ok.ensures.files c.in-Ok-read_path.ensures.found)
    (kept_then before.told between.told read.told c.in-Ok.ensures.files
    c.in-Ok-read_path.ensures.files)
    c.in-Err-proved_path_lines.ensures.front c.in-Err-proved_path_lines.ensures.files
    (λ is. rose_files _ _ _ c.in-Ok.ensures.writes (rose_files _ _ _ c.in-Ok-read_path.ensures.writes
    (c.in-Err-proved_path_lines.ensures.failed (ap (λ (f : DeskFault). Err f) is))))
    (same_bytes (g.O.Sink.state c.args.out.now).bytes)

pub returns-in-Ok-send_whole-clause-done : goal.returns-in-Ok-send_whole-clause-done
returns-in-Ok-send_whole-clause-done g c =
    let asked = prove_request c.args.asked.now in
    let before = g.D.Desk.state c.args.desk.now in
    let between = g.D.Desk.state c.read_program.new.desk in
    let read = g.D.Desk.state c.read_path.new.desk in
    path_done asked _ read.told c.in-Ok.program c.in-Ok-read_path.path
    c.in-Ok-proved_path_lines.lines.items
    (path_held asked before.told between.told c.in-Ok.program c.in-Ok-read_path.path
    c.in-Ok.ensures.found c.in-Ok.ensures.files c.in-Ok-read_path.ensures.found)
    (kept_then before.told between.told read.told c.in-Ok.ensures.files
    c.in-Ok-read_path.ensures.files)
    c.in-Ok-proved_path_lines.ensures.proof c.in-Ok-proved_path_lines.ensures.files
    c.in-Ok-proved_path_lines.ensures.lines
    (rw (← c.deref.ensures.value) c.in-Ok-send_whole.ensures.sent)

pub returns-clause-ended : goal.returns-clause-ended
returns-clause-ended g c =
    let asked = prove_request c.args.asked.now in
    let before = g.D.Desk.state c.args.desk.now in
    let between = g.D.Desk.state c.read_program.new.desk in
    let read = g.D.Desk.state c.read_path.new.desk in
    path_unsent asked _ _ c.in-Err-send_whole.fault read.told c.in-Ok.program
    c.in-Ok-read_path.path c.in-Ok-proved_path_lines.lines.items
    c.write_end-in-Err-send_whole.ensures
    (path_held asked before.told between.told c.in-Ok.program c.in-Ok-read_path.path
    c.in-Ok.ensures.found c.in-Ok.ensures.files c.in-Ok-read_path.ensures.found)
    (kept_then before.told between.told read.told c.in-Ok.ensures.files
    c.in-Ok-read_path.ensures.files)
    c.in-Ok-proved_path_lines.ensures.proof c.in-Ok-proved_path_lines.ensures.files
    c.in-Ok-proved_path_lines.ensures.lines
    (λ is. c.in-Err-send_whole.ensures.failed (ap (λ (f : DeskFault). Err f) is))
    (rw (← c.deref.ensures.value) c.in-Err-send_whole.ensures.prefix)
