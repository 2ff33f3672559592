use Rattle.std.proofs.Common.{◌≡◌, ◌++◌, List}
use Rattle.mm_proof.specs.WorkStacks.{PutsMore}
use Rattle.mm_proof.specs.Writing.{goal_trees}
use Rattle.mm_proof.specs.declared.works.Goal.{Goal}
use Rattle.mm_proof.proofs.stacks.put_all.Given as goal

-- the goals that were put are the last ones
abbrev pub invariant-loop-part : goal.invariant-loop-part
invariant-loop-part l =
    (put : List Goal) × (l.parts ≡ l.part-iterator.iter.rest.now ++ put)
    × PutsMore (λ k. goal_trees k put) l.initial.stack.items l.stack.items
