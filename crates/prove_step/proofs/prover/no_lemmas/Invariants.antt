use Rattle.std.proofs.Common.{◌≡◌, replicate, None}
use Rattle.prove_step.proofs.prover.no_lemmas.Given as goal

abbrev pub invariant-loop : goal.invariant-loop
invariant-loop l = l.places.items ≡ replicate l.counter None
