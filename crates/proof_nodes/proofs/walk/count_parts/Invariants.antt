use Rattle.std.proofs.Common.{◌≤◌, length}
use Rattle.proof_nodes.proofs.walk.count_parts.Given as goal

abbrev pub invariant-loop-rest : goal.invariant-loop-rest
invariant-loop-rest l = l.rest ≤ length l.links

abbrev pub decreases-loop-rest : goal.decreases-loop-rest
decreases-loop-rest l = l.rest
