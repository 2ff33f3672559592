use Rattle.std.proofs.Common.{◌≡◌, take}
use Rattle.prove_term.specs.Applications.{applied_to}
use Rattle.refute.proofs.rising.no_part.Given as goal

abbrev pub invariant-loop-j : goal.invariant-loop-j
invariant-loop-j l = l.function ≡ applied_to l.parts.head (take l.j l.parts.arguments.items)
