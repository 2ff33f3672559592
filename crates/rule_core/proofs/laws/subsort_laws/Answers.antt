use Rattle.rule_core.proofs.Belows.{below_is_tested}
use Rattle.rule_core.proofs.laws.subsort_laws.Goals as goal

pub returns : goal.returns
returns c = below_is_tested
