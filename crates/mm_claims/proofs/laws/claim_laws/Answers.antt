use Rattle.mm_claims.proofs.ClaimLaws.{over_names_is_claim}
use Rattle.mm_claims.proofs.OpenVariableLaws.{needed_are_enough, others_are_enough}
use Rattle.mm_claims.proofs.laws.claim_laws.Goals as goal

pub returns-clause-claims : goal.returns-clause-claims
returns-clause-claims a = over_names_is_claim

pub returns-clause-enough : goal.returns-clause-enough
returns-clause-enough a = needed_are_enough

pub returns-clause-others : goal.returns-clause-others
returns-clause-others a = others_are_enough
