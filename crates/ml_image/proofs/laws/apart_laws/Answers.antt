use Rattle.ml_image.proofs.ApartLaws.{instances_differ, injections_differ}
use Rattle.ml_image.proofs.laws.apart_laws.Goals as goal

pub returns-clause-unequal : goal.returns-clause-unequal
returns-clause-unequal a = instances_differ

pub returns-clause-injective : goal.returns-clause-injective
returns-clause-injective a = injections_differ
