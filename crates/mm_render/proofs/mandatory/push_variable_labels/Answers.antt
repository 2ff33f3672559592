use Rattle.std.proofs.Common.{List, ◌+◌, ◌++◌, map, take, ap, ◌∙◌, arith}
use Rattle.std.proofs.lemmas.List.{map-append, take_all, take_more}
use Rattle.mm_proof.specs.Writing.{label_token}
use Rattle.mm_claims.specs.Variables.{variable_label}
use Rattle.mm_render.specs.VariablesView.{plain_variables, variable_of}
use Rattle.mm_render.specs.declared.variables.Variable.{Variable}
use Rattle.mm_render.proofs.HeadTexts.{plain_variables-push}
use Rattle.mm_render.proofs.MandatoryTexts.{label_added}
use Rattle.mm_render.proofs.mandatory.push_variable_labels.Goals as goal

pub loop-variable-preserved : goal.loop-variable-preserved
loop-variable-preserved c =
    let all : List Variable = c.args.variables.now in
    let before : List Variable = take c.loop-variable.variable-index all in
    label_added c.label_of.result _ (λ k. map (variable_label k) (plain_variables before))
    (λ k. map (variable_label k) (plain_variables (take (c.loop-variable.variable-index + 1) all)))
    c.args.labels.now.items c.loop-variable.labels.items c.push.new.self.items
    c.loop-variable.invariant c.label_of.ensures c.in_ok-push.ensures.items
    (λ k. ap (λ (us : List Variable). map (variable_label k) (plain_variables us))
    (take_more all c.loop-variable.variable-index _ c.loop-variable-test.true)
    ∙ ap (map (variable_label k)) (plain_variables-push before _)
    ∙ map-append (variable_label k) (plain_variables before) _)

pub returns : goal.returns
returns c k =
    c.loop-variable.invariant k
    ∙ ap (λ (us : List Variable). map (label_token k) c.args.labels.now.items
    ++ map (variable_label k) (plain_variables us))
    (take_all c.loop-variable.variable-index c.args.variables.now
    (omega (arith, c.loop-variable-test.false)))
