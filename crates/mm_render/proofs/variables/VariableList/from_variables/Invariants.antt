use Rattle.std.proofs.Common.{◌≡◌, take}
use Rattle.mm_render.specs.ListedVariables.{listed}
use Rattle.mm_render.specs.VariablesView.{plain_variables}
use Rattle.mm_render.proofs.variables.VariableList.from_variables.Given as goal

abbrev pub invariant-loop-variable : goal.invariant-loop-variable
invariant-loop-variable l = listed l.list ≡ plain_variables (take l.variable-index l.variables)
