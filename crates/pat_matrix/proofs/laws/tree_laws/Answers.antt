use Rattle.pat_matrix.proofs.TreeHits.{tree_finds_matches}
use Rattle.pat_matrix.proofs.ListedLaws.{asked_are_listed, listed_are_asked}
use Rattle.pat_matrix.proofs.TwinLaws.{found_match_by_twins}
use Rattle.pat_matrix.proofs.laws.tree_laws.Goals as goal

pub returns-clause-hits : goal.returns-clause-hits
returns-clause-hits c = tree_finds_matches

pub returns-clause-twins : goal.returns-clause-twins
returns-clause-twins c = found_match_by_twins

pub returns-clause-listed : goal.returns-clause-listed
returns-clause-listed c = asked_are_listed

pub returns-clause-asked : goal.returns-clause-asked
returns-clause-asked c = listed_are_asked
