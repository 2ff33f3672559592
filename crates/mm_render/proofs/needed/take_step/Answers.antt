use Rattle.std.proofs.Common.{ℕ, List, ◌≡◌, ◌+◌, [], ap, ◌∙◌, sym, subst, arith}
use Rattle.std.specs.Prelude.{flat_map}
use Rattle.ml_pat.specs.Patterns.{Pattern}
use Rattle.ml_kernel.specs.declared.derivations.Inst.{Inst}
use Rattle.ml_pat.specs.declared.numbers.VarNo.{VarNo}
use Rattle.ml_kernel.specs.StepView.{derivation_of, instances_of, numbers_of}
use Rattle.ml_kernel.specs.StepsIn.{steps_in, all_steps}
use Rattle.ml_kernel.specs.Theorems.{Derivation, derivations, own_axiom, by_rule, cited}
use Rattle.mm_claims.specs.Blocks.{Stated}
use Rattle.mm_claims.specs.AddedVariables.{added}
use Rattle.mm_render.specs.ListedVariables.{listed}
use Rattle.mm_render.specs.NeededView.{PutsDerivations}
use Rattle.mm_claims.specs.OpenVariables.{variables_at, variables_for, variables_of}
use Rattle.mm_render.specs.PlaceTable.{found_at}
use Rattle.mm_claims.specs.Variables.{Variable}
use Rattle.mm_render.specs.VariablesView.{plain_variables}
use Rattle.mm_proof.proofs.Stacking.{on_ok}
use Rattle.mm_render.proofs.NeededLaws.{leaf_needed, step_needed}
use Rattle.mm_render.proofs.needed.take_step.Goals as goal

pub returns-in_ok-cited-in-Axiom : goal.returns-in_ok-cited-in-Axiom
returns-in_ok-cited-in-Axiom c =
    let find : List Pattern → Pattern → Stated = found_at c.args.at.now in
    let whole : c.args.derivation.now ≡ own_axiom c.in-Axiom.field-0.0 c.in-Axiom.p
    (numbers_of c.in-Axiom.new.items) =
    sym c.step.ensures ∙ ap derivation_of c.in-Axiom.is in
    let us : List Variable = (found_at c.args.at.now [] c.in-Axiom.p).claim.variables in
    let xs : List ℕ = numbers_of c.in-Axiom.new.items in
    on_ok c.add_values.result (λ is. leaf_needed find c.args.derivation.now
    (flat_map (variables_at xs []) us) c.args.stack.now.items (listed c.args.list.now)
    (listed c.add_values.new.list)
    (ap (variables_of (found_at c.args.at.now)) whole) (ap steps_in whole)
    (is
    ∙ ap (λ (vs : List Variable). added (listed c.args.list.now)
    (flat_map (variables_at (numbers_of c.deref.result.now) []) vs))
    c.in_ok-cited-in-Axiom.ensures.variables
    ∙ ap (λ (ys : List VarNo).
    added (listed c.args.list.now) (flat_map (variables_at (numbers_of ys) []) us))
    c.deref.ensures.value)) c.add_values.ensures

pub returns-in_ok-add_instances-in-ByRule : goal.returns-in_ok-add_instances-in-ByRule
returns-in_ok-add_instances-in-ByRule c =
    let find : List Pattern → Pattern → Stated = found_at c.args.at.now in
    let whole : c.args.derivation.now ≡ by_rule c.in-ByRule.field-0
    (instances_of c.in-ByRule.instances.items) (derivations c.in-ByRule.parts.items) =
    sym c.step.ensures ∙ ap derivation_of c.in-ByRule.is in
    let size : steps_in c.args.derivation.now ≡ all_steps (derivations c.in-ByRule.parts.items) +
    1 =
    ap steps_in whole in
    let us : List Variable = flat_map variables_for (instances_of c.in-ByRule.instances.items) in
    let is : listed c.add_instances.new.list ≡ added (listed c.args.list.now) us =
    c.in_ok-add_instances-in-ByRule.ensures
    ∙ ap (λ (is : List Inst).
    added (listed c.args.list.now) (flat_map variables_for (instances_of is)))
    c.deref-in-ByRule.ensures.value in
    on_ok c.put_derivations.result (λ put. step_needed find c.args.derivation.now us
    (derivations c.in-ByRule.parts.items) c.args.stack.now.items
    c.put_derivations.new.stack.items (listed c.args.list.now) (listed c.add_instances.new.list)
    (ap (variables_of (found_at c.args.at.now)) whole) (omega (arith, size)) is
    (subst (λ (ds : List Derivation). PutsDerivations (derivations ds) c.args.stack.now.items
    c.put_derivations.new.stack.items) c.deref-in-ByRule-2.ensures.value
    put)) c.put_derivations.ensures

pub returns-in_ok-add_values-in-Cited : goal.returns-in_ok-add_values-in-Cited
returns-in_ok-add_values-in-Cited c =
    let find : List Pattern → Pattern → Stated = found_at c.args.at.now in
    let own : List Pattern = c.in-Cited.lemma.hypotheses in
    let q : Pattern = c.in-Cited.lemma.conclusion in
    let whole : c.args.derivation.now ≡ cited own q c.in-Cited.lemma.derivation
    c.in-Cited.patterns.items (derivations c.in-Cited.parts.items) =
    sym c.step.ensures ∙ ap derivation_of c.in-Cited.is in
    let size : steps_in c.args.derivation.now ≡ all_steps (derivations c.in-Cited.parts.items) + 1 =
    ap steps_in whole in
    let us : List Variable =
    flat_map (variables_at [] c.in-Cited.patterns.items) (find own q).claim.variables in
    let found : plain_variables c.in_ok-cited-in-Cited.cited.variables.now ≡
    (find own q).claim.variables =
    c.in_ok-cited-in-Cited.ensures.variables
    ∙ ap (λ (ps : List Pattern). (find ps c.conclusion.result.now).claim.variables)
    c.hypotheses.ensures.value
    ∙ ap (λ (p : Pattern). (find own p).claim.variables) c.conclusion.ensures in
    let is : listed c.add_values-in-Cited.new.list ≡ added (listed c.args.list.now) us =
    c.in_ok-add_values-in-Cited.ensures
    ∙ ap (λ (vs : List Variable). added (listed c.args.list.now)
    (flat_map (variables_at [] c.deref-in-Cited.result.now) vs)) found
    ∙ ap (λ (ms : List Pattern). added (listed c.args.list.now)
    (flat_map (variables_at [] ms) (find own q).claim.variables))
    c.deref-in-Cited.ensures.value in
    on_ok c.put_derivations-in-Cited.result (λ put. step_needed find c.args.derivation.now us
    (derivations c.in-Cited.parts.items) c.args.stack.now.items
    c.put_derivations-in-Cited.new.stack.items (listed c.args.list.now)
    (listed c.add_values-in-Cited.new.list)
    (ap (variables_of (found_at c.args.at.now)) whole) (omega (arith, size)) is
    (subst (λ (ds : List Derivation). PutsDerivations (derivations ds) c.args.stack.now.items
    c.put_derivations-in-Cited.new.stack.items) c.deref-in-Cited-2.ensures.value
    put)) c.put_derivations-in-Cited.ensures
