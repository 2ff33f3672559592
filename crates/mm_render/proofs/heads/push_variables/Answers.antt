use Rattle.std.proofs.Common.{List, take, ap, ◌∙◌}
use Rattle.std.proofs.lemmas.List.{take_more}
use Rattle.mm_claims.specs.Blocks.{variable_statements}
use Rattle.mm_render.specs.VariablesView.{plain_variables}
use Rattle.mm_render.specs.declared.variables.Variable.{Variable}
use Rattle.mm_render.proofs.HeadTexts.{more_written, plain_variables-push, variable_statements-push}
use Rattle.mm_render.proofs.heads.push_variables.Goals as goal

pub loop-variable-preserved : goal.loop-variable-preserved
loop-variable-preserved c =
    let before : List Variable = take c.loop-variable.variable-index c.args.variables.now in
    more_written c.args.to.now.items c.loop-variable.to.items c.push_variable.new.to.items
    (variable_statements c.args.serial (plain_variables before)) _ _ c.loop-variable.invariant
    c.in_ok-push_variable.ensures
    (ap (λ (us : List Variable). variable_statements c.args.serial (plain_variables us))
    (take_more c.args.variables.now c.loop-variable.variable-index _ c.loop-variable-test.true)
    ∙ ap (variable_statements c.args.serial) (plain_variables-push before _)
    ∙ variable_statements-push c.args.serial (plain_variables before) _)
