use Rattle.rule_core.proofs.RunUnique.{trial_is_unique, step_is_unique, run_is_unique}
use Rattle.rule_core.proofs.RunEnds.{ends_are_of_run, run_may_end}
use Rattle.rule_core.proofs.RunAnswers.{has_run, configurations_are_sorted, step_record_determines}
use Rattle.rule_core.proofs.FirstApplies.{first_applies, none_applies_over}
use Rattle.rule_core.proofs.StepsKept.{step_has_record}
use Rattle.rule_core.proofs.evaluation.run_laws.Goals as goal

pub returns-clause-trial : goal.returns-clause-trial
returns-clause-trial a = trial_is_unique

pub returns-clause-step : goal.returns-clause-step
returns-clause-step a = step_is_unique

pub returns-clause-one : goal.returns-clause-one
returns-clause-one a = run_is_unique

pub returns-clause-some : goal.returns-clause-some
returns-clause-some a = has_run

pub returns-clause-sorted : goal.returns-clause-sorted
returns-clause-sorted a =
    λ theory calls sort n c start t good each h r.
    configurations_are_sorted theory good calls sort start each h r

pub returns-clause-recorded : goal.returns-clause-recorded
returns-clause-recorded a = step_record_determines

pub returns-clause-first : goal.returns-clause-first
returns-clause-first a = first_applies

pub returns-clause-none : goal.returns-clause-none
returns-clause-none a = none_applies_over

pub returns-clause-kept : goal.returns-clause-kept
returns-clause-kept a = step_has_record

pub returns-clause-cut : goal.returns-clause-cut
returns-clause-cut a = ends_are_of_run

pub returns-clause-ends : goal.returns-clause-ends
returns-clause-ends a = run_may_end
