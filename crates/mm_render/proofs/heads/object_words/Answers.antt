use Rattle.std.proofs.Common.{List, take, ap, ◌∙◌, arith}
use Rattle.std.proofs.lemmas.List.{take_all, take_more}
use Rattle.mm_claims.specs.Variables.{object_tokens}
use Rattle.mm_render.specs.VariablesView.{plain_variables}
use Rattle.mm_render.specs.declared.variables.Variable.{Variable}
use Rattle.mm_render.proofs.HeadTexts.{more_tokens, plain_variables-push, object_tokens-push}
use Rattle.mm_render.proofs.heads.object_words.Goals as goal

pub loop-variable-preserved : goal.loop-variable-preserved
loop-variable-preserved c names k =
    let before : List Variable = take c.loop-variable.variable-index c.args.variables.now in
    more_tokens _ _ (object_tokens (plain_variables before)) _ _ (c.loop-variable.invariant names k)
    (c.in_ok-push_object.ensures names k)
    (ap (λ (us : List Variable). object_tokens (plain_variables us))
    (take_more c.args.variables.now c.loop-variable.variable-index _ c.loop-variable-test.true)
    ∙ ap object_tokens (plain_variables-push before _)
    ∙ object_tokens-push (plain_variables before) _)

pub returns : goal.returns
returns c names k = c.loop-variable.invariant names k
    ∙ ap (λ (us : List Variable). object_tokens (plain_variables us))
    (take_all c.loop-variable.variable-index c.args.variables.now
    (omega (arith, c.loop-variable-test.false)))
