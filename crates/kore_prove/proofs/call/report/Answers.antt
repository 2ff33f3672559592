use Rattle.kore_prove.specs.PlainEnds.{plain_end}
use Rattle.kore_prove.proofs.Ending.{gets}
use Rattle.kore_prove.proofs.call.report.Goals as goal

pub returns : goal.returns
returns g c = record {
  answer = c.send_report-answer.result;
  got =
      gets (plain_end c.args.end.now) c.send_report-answer.result _ _ _ _ c.send_report-answer.ensures.sent
      c.send_report-answer.ensures.prefix c.send_report-answer.ensures.failed;
  code_is = c.code_after.ensures;
}
