use Rattle.std.proofs.Common.{◌≡◌, ◌≤◌, ◌++◌, length}
use Rattle.proof_nodes.specs.Links.{parts_of}
use Rattle.proof_nodes.specs.Walking.{visits}
use Rattle.proof_nodes.proofs.walk.push_visits.Given as goal

abbrev pub invariant-loop-rest : goal.invariant-loop-rest
invariant-loop-rest l =
    (l.rest ≤ length l.links)
    × (l.tasks.items ++ visits (parts_of l.links l.rest)
    ≡ l.initial.tasks.items ++ visits (parts_of l.links l.chain))

abbrev pub decreases-loop-rest : goal.decreases-loop-rest
decreases-loop-rest l = l.rest
