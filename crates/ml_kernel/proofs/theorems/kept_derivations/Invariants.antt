use Rattle.std.proofs.Common.{◌≡◌, take}
use Rattle.ml_kernel.specs.Theorems.{derivations, all_derivations}
use Rattle.ml_kernel.specs.Premises.{theorems_of}
use Rattle.ml_kernel.proofs.theorems.kept_derivations.Given as goal

abbrev pub invariant-loop-thm : goal.invariant-loop-thm
invariant-loop-thm l =
    derivations l.below.items ≡ all_derivations (theorems_of (take l.thm-index l.premises))
