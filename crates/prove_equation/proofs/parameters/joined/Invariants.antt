use Rattle.std.proofs.Common.{◌≡◌, ◌++◌, take}
use Rattle.prove_equation.proofs.parameters.joined.Given as goal

abbrev pub invariant-loop-thm : goal.invariant-loop-thm
invariant-loop-thm l = l.theorems.items ≡ take l.thm-index l.first

abbrev pub invariant-loop-other : goal.invariant-loop-other
invariant-loop-other l = l.theorems.items ≡ l.first ++ take l.other-index l.second
