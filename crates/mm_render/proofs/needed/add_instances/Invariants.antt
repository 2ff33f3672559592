use Rattle.std.proofs.Common.{◌≡◌, flat_map, take}
use Rattle.ml_kernel.specs.StepView.{instances_of}
use Rattle.mm_claims.specs.AddedVariables.{added}
use Rattle.mm_render.specs.ListedVariables.{listed}
use Rattle.mm_claims.specs.OpenVariables.{variables_for}
use Rattle.mm_render.proofs.needed.add_instances.Given as goal

abbrev pub invariant-loop-instance : goal.invariant-loop-instance
invariant-loop-instance l = listed l.list
    ≡ added (listed l.fn.list)
    (flat_map variables_for (instances_of (take l.instance-index l.instances)))
