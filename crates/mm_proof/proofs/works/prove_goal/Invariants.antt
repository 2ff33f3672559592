use Rattle.std.proofs.Common.{◌≡◌, [], ◌∷◌, ◌++◌}
use Rattle.mm_proof.specs.Listings.{trees_of}
use Rattle.mm_proof.specs.WorkStacks.{Leads, stack_weight}
use Rattle.mm_proof.specs.Writing.{goal_tree}
use Rattle.mm_proof.proofs.works.prove_goal.Given as goal

abbrev pub invariant-loop-next : goal.invariant-loop-next
invariant-loop-next l = (l.table.serial ≡ l.fn.table.serial)
    × Leads l.table.serial l.stack.items (trees_of l.table)
    (trees_of l.fn.table ++ goal_tree l.fn.table.serial l.goal ∷ [])

abbrev pub decreases-loop-next : goal.decreases-loop-next
decreases-loop-next l = stack_weight l.table.serial l.stack.items
