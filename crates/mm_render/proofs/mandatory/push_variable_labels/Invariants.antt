use Rattle.std.proofs.Common.{map, take}
use Rattle.mm_claims.specs.Variables.{variable_label}
use Rattle.mm_render.specs.MandatoryLabels.{AddsLabelsOf}
use Rattle.mm_render.specs.VariablesView.{plain_variables}
use Rattle.mm_render.proofs.mandatory.push_variable_labels.Given as goal

abbrev pub invariant-loop-variable : goal.invariant-loop-variable
invariant-loop-variable l =
    AddsLabelsOf (λ k. map (variable_label k)
    (plain_variables (take l.variable-index l.variables))) l.initial.labels.items l.labels.items
