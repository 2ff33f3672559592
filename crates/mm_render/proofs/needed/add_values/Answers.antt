use Rattle.std.proofs.Common.{List, ◌+◌, take, ap, ◌∙◌}
use Rattle.std.proofs.lemmas.List.{take_more, map-append}
use Rattle.ml_kernel.specs.StepView.{numbers_of}
use Rattle.mm_render.specs.ListedVariables.{listed}
use Rattle.mm_claims.specs.OpenVariables.{variables_at}
use Rattle.mm_render.specs.VariablesView.{plain_variables, variable_of}
use Rattle.mm_render.specs.declared.variables.Variable.{Variable}
use Rattle.mm_render.proofs.StackedVariables.{item_added}
use Rattle.mm_render.proofs.needed.add_values.Goals as goal

pub loop-variable-preserved : goal.loop-variable-preserved
loop-variable-preserved c =
    let all : List Variable = c.args.variables.now in
    let before : List Variable = take c.loop-variable.variable-index all in
    item_added (variables_at (numbers_of c.args.new.now) c.args.patterns.now)
    (plain_variables (take (c.loop-variable.variable-index + 1) all)) (plain_variables before) _
    (listed c.args.list.now) (listed c.loop-variable.list) (listed c.add_value.new.list)
    (ap plain_variables (take_more all c.loop-variable.variable-index _ c.loop-variable-test.true)
    ∙ map-append variable_of before _) c.loop-variable.invariant c.in_ok-add_value.ensures
