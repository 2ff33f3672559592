use Rattle.std.proofs.Common.{ap, Err}
use Rattle.desk_io.specs.declared.read.ReadEnd.{ReadEnd}
use Rattle.kore_prove.specs.PathFiles.{hints_limit}
use Rattle.kore_prove.specs.PlainEnds.{plain_end}
use Rattle.kore_prove.specs.Requests.{prove_request}
use Rattle.kore_prove.proofs.PathFiles.{can_prove, hints_unread, path_shown, unread_hints}
use Rattle.kore_prove.proofs.path_file.read_path.Goals as goal

pub returns-in-Err-clause-cause : goal.returns-in-Err-clause-cause
returns-in-Err-clause-cause g c =
    let before = g.D.Desk.state c.args.desk.now in
    let after = g.D.Desk.state c.read_file.new.desk in
    let asked = prove_request c.args.asked.now in
    unread_hints before.told asked c.args.program.now before.read_faults after.read_faults
    (plain_end c.unread_end.result)
    (c.unread_end.ensures before.told hints_limit before.read_faults after.read_faults
    (hints_unread before.told asked.hints hints_limit before.read_faults after.read_faults
    c.in-Err.end (λ is. c.in-Err.ensures.no_file (ap (λ (e : ReadEnd). Err e) is))
    (λ is. c.in-Err.ensures.too_large (ap (λ (e : ReadEnd). Err e) is))
    (λ is. c.in-Err.ensures.failed (ap (λ (e : ReadEnd). Err e) is))))

pub returns-in-Ok-read-clause-provable : goal.returns-in-Ok-read-clause-provable
returns-in-Ok-read-clause-provable g c =
    can_prove c.args.program.now c.in-Ok-read.path c.args.asked.now.calls c.deref.result.now
    c.requires c.in-Ok-read.ensures.read

pub returns-in-Ok-read-clause-shown : goal.returns-in-Ok-read-clause-shown
returns-in-Ok-read-clause-shown g c =
    path_shown c.args.program.now c.in-Ok-read.path c.args.asked.now.calls c.deref.result.now
    c.requires c.in-Ok-read.ensures.read
