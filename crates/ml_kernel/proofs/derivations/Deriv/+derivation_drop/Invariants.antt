use Rattle.std.proofs.Common.{◌<◌}
use Rattle.ml_kernel.specs.declared.derivations.Deriv.TheDeep.{size-Deriv}
use Rattle.ml_kernel.specs.Theorems.{derivations}
use Rattle.ml_kernel.specs.StepsIn.{steps_in, all_steps}
use Rattle.ml_kernel.proofs.derivations.Deriv.+derivation_drop.Given as goal

-- the measure that decreases when the drop of a list calls the drop of each of its derivations
abbrev pub decreases-drop : goal.decreases-drop
decreases-drop l = size-Deriv l.self

abbrev pub invariant-loop-part : goal.invariant-loop-part
invariant-loop-part l = all_steps (derivations l.pending.items) < steps_in l.fn.self

abbrev pub decreases-loop-part : goal.decreases-loop-part
decreases-loop-part l = all_steps (derivations l.pending.items)
