use Rattle.std.proofs.Common.{List, ◌++◌, map, ap, sym, ◌∙◌}
use Rattle.mm_text.specs.Bytes.{Token}
use Rattle.ml_pat.specs.Patterns.{Pattern}
use Rattle.mm_proof.specs.Writing.{label_token}
use Rattle.mm_proof.specs.declared.words.Label.{Label}
use Rattle.mm_claims.proofs.MandatoryLabels.{mandatory_are}
use Rattle.mm_claims.specs.PremiseLabels.{premise_labels}
use Rattle.mm_claims.specs.Variables.{variable_label}
use Rattle.mm_render.specs.ClaimView.{plain_claim}
use Rattle.mm_render.specs.VariablesView.{plain_variables}
use Rattle.mm_render.specs.declared.variables.Variable as code
use Rattle.mm_render.proofs.mandatory.mandatory_labels.Goals as goal

pub returns : goal.returns
returns c names k =
    let others : List Token = premise_labels k 0 c.deref-2.result.now in
    c.in_ok-push_premise_labels.ensures k
    ∙ ap (λ (ts : List Token). ts ++ others) (c.in_ok-push_variable_labels.ensures k)
    ∙ ap (λ (ls : List Label). (map (label_token k) ls
    ++ map (variable_label k) (plain_variables c.deref.result.now)) ++ others)
    c.new-labels.ensures.items
    ∙ ap (λ (vs : List code.Variable). map (variable_label k) (plain_variables vs) ++ others)
    c.deref.ensures.value
    ∙ ap (λ (ps : List Pattern).
    map (variable_label k) (plain_variables c.args.claim.now.variables.items)
    ++ premise_labels k 0 ps) c.deref-2.ensures.value
    ∙ sym (mandatory_are names k (plain_claim c.args.claim.now))
