use Rattle.std.proofs.Common.{◌≡◌, drop}
use Rattle.refute.specs.Refutations.{is_one_of}
use Rattle.refute.proofs.variables.is_one_of.Given as goal

abbrev pub invariant-loop-y : goal.invariant-loop-y
invariant-loop-y l = is_one_of l.x (drop l.y-index l.variables) ≡ is_one_of l.x l.variables
