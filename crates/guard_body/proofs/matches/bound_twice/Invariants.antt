use Rattle.guard_body.proofs.FoundLists.{NoneBelow, NoneWith}
use Rattle.guard_body.proofs.matches.bound_twice.Given as goal

abbrev pub invariant-loop-first : goal.invariant-loop-first
invariant-loop-first l = NoneBelow l.found l.first

abbrev pub invariant-loop-second : goal.invariant-loop-second
invariant-loop-second l = NoneWith l.found l.first l.second
