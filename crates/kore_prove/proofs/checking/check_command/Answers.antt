use Rattle.std.proofs.Common.{ap}
use Rattle.std.specs.Prelude.{Err}
use Rattle.desk_io.specs.declared.desk.DeskFault.{DeskFault}
use Rattle.kore_prove.specs.Causes.{check_undecided}
use Rattle.kore_prove.specs.Requests.{check_request}
use Rattle.kore_prove.proofs.Deciding.{prints_decision, decision_ended}
use Rattle.kore_prove.proofs.Ending.{same_bytes}
use Rattle.kore_prove.proofs.checking.check_command.Goals as goal

pub returns-in-Ok-send_decision-clause-printed : goal.returns-in-Ok-send_decision-clause-printed
returns-in-Ok-send_decision-clause-printed g c =
    prints_decision _ (check_request c.args.asked.now) _ _ c.in-Ok.decision c.in-Ok.ensures.found
    c.in-Ok-send_decision.ensures.sent

pub returns-in-Err-clause-cause : goal.returns-in-Err-clause-cause
returns-in-Err-clause-cause g c =
    check_undecided c.in-Err.ensures.cause
    (same_bytes (g.O.Sink.state c.args.out.now).bytes, c.read_decision.ensures.files)

pub returns-clause-cause : goal.returns-clause-cause
returns-clause-cause g c =
    decision_ended _ (check_request c.args.asked.now) c.in-Ok.decision _
    c.in-Err-send_decision.fault c.write_end.ensures c.in-Ok.ensures.found
    (λ is. c.in-Err-send_decision.ensures.failed (ap (λ (f : DeskFault). Err f) is))
    c.in-Err-send_decision.ensures.prefix
