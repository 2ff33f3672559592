use Rattle.std.proofs.Common.{◌≡◌, flat_map, take}
use Rattle.mm_claims.specs.AddedVariables.{added}
use Rattle.ml_kernel.specs.StepView.{numbers_of}
use Rattle.mm_render.specs.ListedVariables.{listed}
use Rattle.mm_claims.specs.OpenVariables.{variables_at}
use Rattle.mm_render.specs.VariablesView.{plain_variables}
use Rattle.mm_render.proofs.needed.add_values.Given as goal

abbrev pub invariant-loop-variable : goal.invariant-loop-variable
invariant-loop-variable l = listed l.list
    ≡ added (listed l.fn.list) (flat_map (variables_at (numbers_of l.new) l.patterns)
    (plain_variables (take l.variable-index l.fn.variables)))
