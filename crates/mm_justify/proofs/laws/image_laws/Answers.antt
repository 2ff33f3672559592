use Rattle.mm_justify.proofs.ImageLeaves.{image_is_closed, sentence_has_no_meta, sentence_is_over}
use Rattle.mm_justify.proofs.laws.image_laws.Goals as goal

pub returns-clause-over : goal.returns-clause-over
returns-clause-over a = sentence_is_over

pub returns-clause-metas : goal.returns-clause-metas
returns-clause-metas a = sentence_has_no_meta

pub returns-clause-closed : goal.returns-clause-closed
returns-clause-closed a = image_is_closed
