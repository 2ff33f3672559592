-- The parts of a derivation have fewer steps than the derivation.
use Rattle.std.specs.Prelude.{◌+◌, ◌≤◌, List, [], ◌∷◌}
use Rattle.std.proofs.Common.{arith}
use denote.Param.Weighed.{most}
use Rattle.ml_kernel.specs.Theorems.{Derivation, derivations}
use Rattle.ml_kernel.specs.StepsIn.{steps_in, all_steps}
use Rattle.ml_kernel.specs.StepView.{derivation_of}
use Rattle.ml_kernel.specs.declared.derivations.DerivStep.{DerivStep}
use Rattle.ml_kernel.specs.declared.derivations.DerivStep.TheVariants as step
use Rattle.ml_kernel.specs.declared.derivations.Deriv.TheDeep.{deep-DerivStep}

pub most-steps : (ds : List Derivation)
    → most (λ d. steps_in d + 1) ds ≤ all_steps (derivations ds) + 1
most-steps [] = omega arith
most-steps (d ∷ ds) = omega (arith, most-steps ds)

pub deep-steps : (s : DerivStep) → deep-DerivStep s ≤ steps_in (derivation_of s)
deep-steps (step.Hyp p) = omega arith
deep-steps (step.Axiom n p new) = omega arith
deep-steps (step.ByRule r is ds) = omega (arith, most-steps ds.items)
deep-steps (step.Cited l ms ds) = omega (arith, most-steps ds.items)
