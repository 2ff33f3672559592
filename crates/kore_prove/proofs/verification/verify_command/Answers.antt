use Rattle.std.proofs.Common.{ap}
use Rattle.std.specs.Prelude.{Err}
use Rattle.desk_io.specs.declared.desk.DeskFault.{DeskFault}
use Rattle.kore_prove.specs.Causes.{file_unverified}
use Rattle.kore_prove.specs.Courses.{Course, course_of}
use Rattle.kore_prove.specs.Verdicts.{database_limit}
use Rattle.kore_prove.proofs.Deciding.{database_of_verify}
use Rattle.kore_prove.proofs.Ending.{same_bytes}
use Rattle.kore_prove.proofs.Verifying.{verdict_ended}
use Rattle.kore_prove.proofs.verification.verify_command.Goals as goal

pub returns-in-Err-clause-cause : goal.returns-in-Err-clause-cause
returns-in-Err-clause-cause g c =
    let course : Course =
    course_of (g.D.Desk.state c.args.desk.now) (g.D.Desk.state c.read_verdict.new.desk)
    (g.O.Sink.state c.args.out.now) (g.O.Sink.state c.args.out.now) in
    file_unverified
    (database_of_verify c.args.file.now course _
    (c.unread_end.ensures course.desk.told database_limit course.desk.read_faults
    course.desk'.read_faults c.in-Err.ensures.cause))
    (same_bytes (g.O.Sink.state c.args.out.now).bytes, c.read_verdict.ensures.files)

pub returns-in-Err-send_verdict-clause-cause : goal.returns-in-Err-send_verdict-clause-cause
returns-in-Err-send_verdict-clause-cause g c =
    verdict_ended _ c.args.file.now c.in-Ok.verdict _ c.in-Err-send_verdict.fault
    c.write_end.ensures c.in-Ok.ensures.found
    (λ is. c.in-Err-send_verdict.ensures.failed (ap (λ (f : DeskFault). Err f) is))
    c.in-Err-send_verdict.ensures.prefix
