use Rattle.mm_frame.proofs.disjoint.Disjoint.are_together.Given as goal

abbrev pub invariant-loop-place : goal.invariant-loop-place
invariant-loop-place l = Unit {0}
