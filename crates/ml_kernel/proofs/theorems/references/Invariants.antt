use Rattle.std.proofs.Common.{◌≡◌, take}
use Rattle.ml_kernel.specs.Premises.{theorems_of}
use Rattle.ml_kernel.proofs.theorems.references.Given as goal

abbrev pub invariant-loop-thm : goal.invariant-loop-thm
invariant-loop-thm l = theorems_of l.all.items ≡ take l.thm-index l.proofs
