use Rattle.pat_matrix.proofs.FindingLaws.{tested_row_is_found, positions_are_reached}
use Rattle.pat_matrix.proofs.FindingLaws.{branch_rows_fit, other_rows_fit}
use Rattle.pat_matrix.proofs.laws.finding_laws.Goals as goal

pub returns-clause-found : goal.returns-clause-found
returns-clause-found c = tested_row_is_found

pub returns-clause-reached : goal.returns-clause-reached
returns-clause-reached c = positions_are_reached

pub returns-clause-branch : goal.returns-clause-branch
returns-clause-branch c = branch_rows_fit

pub returns-clause-others : goal.returns-clause-others
returns-clause-others c = other_rows_fit
