use Rattle.std.proofs.Common.{take}
use Rattle.mm_proof.specs.Listings.{Builds}
use Rattle.mm_proof.specs.Writing.{goal_trees}
use Rattle.mm_proof.proofs.works.prove_goals.Given as goal

abbrev pub invariant-loop-goal : goal.invariant-loop-goal
invariant-loop-goal l =
    Builds (λ k. goal_trees k (take l.goal-index l.goals)) l.initial.table l.table
