use Rattle.ml_image.proofs.NamingLaws.{gained_are_own, image_stays, sentence_stays}
use Rattle.ml_image.proofs.laws.naming_laws.Goals as goal

pub returns-clause-gained : goal.returns-clause-gained
returns-clause-gained a = gained_are_own

pub returns-clause-image : goal.returns-clause-image
returns-clause-image a = image_stays

pub returns-clause-sentence : goal.returns-clause-sentence
returns-clause-sentence a = sentence_stays
