use Rattle.mm_check.proofs.Offending.{justified_has_none, faultless_justifies, first_is_one}
use Rattle.mm_check.proofs.laws.offence_laws.Goals as goal

pub returns-clause-none : goal.returns-clause-none
returns-clause-none c = justified_has_none

pub returns-clause-some : goal.returns-clause-some
returns-clause-some c = faultless_justifies

pub returns-clause-one : goal.returns-clause-one
returns-clause-one c = first_is_one
