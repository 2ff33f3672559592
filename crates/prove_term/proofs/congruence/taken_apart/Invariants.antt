use Rattle.prove_term.proofs.ApplicationLaws.{IsTaken}
use Rattle.prove_term.proofs.congruence.taken_apart.Given as goal

abbrev pub invariant-loop-i : goal.invariant-loop-i
invariant-loop-i l = IsTaken l.image l.rest l.arguments.items l.i l.count
