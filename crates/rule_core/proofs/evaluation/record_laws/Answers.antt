use Rattle.rule_core.proofs.Determined.{value_has_record, record_tells_value, record_determines}
use Rattle.rule_core.proofs.Determined.{records_agree}
use Rattle.rule_core.proofs.evaluation.record_laws.Goals as goal

pub returns-clause-kept : goal.returns-clause-kept
returns-clause-kept a = value_has_record

pub returns-clause-tells : goal.returns-clause-tells
returns-clause-tells a = record_tells_value

pub returns-clause-determines : goal.returns-clause-determines
returns-clause-determines a = record_determines

pub returns-clause-agree : goal.returns-clause-agree
returns-clause-agree a = records_agree
