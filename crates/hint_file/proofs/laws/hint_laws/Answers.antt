use Rattle.hint_file.proofs.Growing.{paths_grow, texts_grow}
use Rattle.hint_file.proofs.laws.hint_laws.Goals as goal

pub returns-clause-paths : goal.returns-clause-paths
returns-clause-paths a = paths_grow

pub returns-clause-texts : goal.returns-clause-texts
returns-clause-texts a = texts_grow
