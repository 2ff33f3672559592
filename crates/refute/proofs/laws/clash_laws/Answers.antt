use Rattle.refute.proofs.Reasons.{mismatch_has_reason, match_reaches}
use Rattle.refute.proofs.Finality.{failure_is_final}
use Rattle.refute.proofs.laws.clash_laws.Goals as goal

pub returns-clause-mismatch : goal.returns-clause-mismatch
returns-clause-mismatch a = mismatch_has_reason

pub returns-clause-reaches : goal.returns-clause-reaches
returns-clause-reaches a = match_reaches

pub returns-clause-never : goal.returns-clause-never
returns-clause-never a = failure_is_final
