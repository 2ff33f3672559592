use Rattle.std.proofs.Common.{◌≡◌}
use Rattle.pat_matrix.specs.Rows.{numbers_from}
use Rattle.pat_matrix.proofs.matrix.numbers.Given as goal

abbrev pub invariant-loop-number : goal.invariant-loop-number
invariant-loop-number l = l.numbers.items ≡ numbers_from 0 l.number
