use Rattle.rule_core.proofs.Determined.{evaluation_is_unique, evaluation_has_answer}
use Rattle.rule_core.proofs.Determined.{values_are_sorted, more_left_keeps_value}
use Rattle.rule_core.proofs.Determined.{evaluation_calls_fall}
use Rattle.rule_core.proofs.evaluation.evaluation_laws.Goals as goal

pub returns-clause-one : goal.returns-clause-one
returns-clause-one a = evaluation_is_unique

pub returns-clause-some : goal.returns-clause-some
returns-clause-some a = evaluation_has_answer

pub returns-clause-sorted : goal.returns-clause-sorted
returns-clause-sorted a = values_are_sorted

pub returns-clause-more : goal.returns-clause-more
returns-clause-more a = more_left_keeps_value

pub returns-clause-fewer : goal.returns-clause-fewer
returns-clause-fewer a = evaluation_calls_fall
