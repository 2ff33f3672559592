use Rattle.std.proofs.Common.{◌≡◌, take}
use Rattle.ml_kernel.specs.StepView.{instances_of}
use Rattle.ml_kernel.specs.Premises.{parts_of}
use Rattle.ml_kernel.proofs.theorems.kept_parts.Given as goal

abbrev pub invariant-loop-part : goal.invariant-loop-part
invariant-loop-part l = instances_of l.kept.items ≡ parts_of (take l.part-index l.parts)
