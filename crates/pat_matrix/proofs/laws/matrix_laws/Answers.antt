use Rattle.pat_matrix.proofs.CollapsedLaws.{collapsed_matches_the_same, are_collapsed-collapsed}
use Rattle.pat_matrix.proofs.CollapsedLaws.{have_sorts-collapsed}
use Rattle.pat_matrix.proofs.PartLaws.{untaken_do_not_match}
use Rattle.pat_matrix.proofs.laws.matrix_laws.Goals as goal

pub returns-clause-same : goal.returns-clause-same
returns-clause-same c = collapsed_matches_the_same

pub returns-clause-collapsed : goal.returns-clause-collapsed
returns-clause-collapsed c = are_collapsed-collapsed

pub returns-clause-sorted : goal.returns-clause-sorted
returns-clause-sorted c = have_sorts-collapsed

pub returns-clause-untaken : goal.returns-clause-untaken
returns-clause-untaken c = untaken_do_not_match
