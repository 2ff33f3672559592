use Rattle.std.proofs.Common.{◌≡◌, replicate, None}
use Rattle.prove_open.proofs.givens.none.Given as goal

abbrev pub invariant-loop : goal.invariant-loop
invariant-loop l = l.facts.items ≡ replicate l.counter None
