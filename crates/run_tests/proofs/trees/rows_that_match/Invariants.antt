use Rattle.std.proofs.Common.{ℕ, [], ◌∷◌}
use Rattle.match_tree.specs.Finding.{BeginsAt}
use Rattle.run_tests.proofs.trees.rows_that_match.Given as goal

abbrev pub invariant-loop : goal.invariant-loop
invariant-loop g l = (first : ℕ) × BeginsAt l.tree (l.term ∷ []) l.from first
