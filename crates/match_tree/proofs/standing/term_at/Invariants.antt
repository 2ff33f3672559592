use Rattle.std.proofs.Common.{◌≡◌, drop}
use Rattle.pat_matrix.specs.Positions.{subject_at, tree_at}
use Rattle.match_tree.proofs.standing.term_at.Given as goal

abbrev pub invariant-loop-i : goal.invariant-loop-i
invariant-loop-i l = tree_at l.term (drop l.i l.position) ≡ subject_at l.subjects l.position
