use Rattle.rule_core.proofs.Skips.{unmatched_are_skipped}
use Rattle.rule_core.proofs.laws.trial_laws.Goals as goal

pub returns : goal.returns
returns a = record { skipped = unmatched_are_skipped }
