use Rattle.mm_claims.proofs.ClosedPatterns.{closed_has_no_meta, closed_is_over, closed_claims}
use Rattle.mm_claims.proofs.laws.closed_laws.Goals as goal

pub returns-clause-meta : goal.returns-clause-meta
returns-clause-meta a = closed_has_no_meta

pub returns-clause-over : goal.returns-clause-over
returns-clause-over a = closed_is_over

pub returns-clause-claims : goal.returns-clause-claims
returns-clause-claims a = closed_claims
