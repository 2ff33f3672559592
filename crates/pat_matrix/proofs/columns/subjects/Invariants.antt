use Rattle.std.proofs.Common.{◌≡◌}
use Rattle.pat_matrix.specs.Rows.{subjects_from}
use Rattle.pat_matrix.specs.MatrixView.{positions}
use Rattle.pat_matrix.proofs.columns.subjects.Given as goal

abbrev pub invariant-loop-subject : goal.invariant-loop-subject
invariant-loop-subject l = positions l.columns.items ≡ subjects_from 0 l.subject
