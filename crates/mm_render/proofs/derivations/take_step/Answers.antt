use Rattle.std.proofs.Common.{◌≡◌, ℕ, ◌+◌, ◌*◌, List, [], ◌∷◌, ◌++◌, map, refl, ap, ◌∙◌, sym, subst}
use Rattle.std.proofs.Common.{arith}
use Rattle.ml_pat.specs.Patterns.{Pattern}
use Rattle.ml_kernel.specs.declared.derivations.Inst.{Inst}
use Rattle.ml_kernel.specs.declared.rules.Rule.{Rule}
use Rattle.ml_kernel.specs.Rules.{Instance}
use Rattle.ml_kernel.specs.StepView.{instances_of, numbers_of, derivation_of}
use Rattle.ml_kernel.specs.StepsIn.{all_steps}
use Rattle.ml_kernel.specs.Theorems.{Derivation, derivations, hypothesis, own_axiom, by_rule, cited}
use Rattle.ml_kernel.specs.Theorems.{Theorem}
use Rattle.ml_pat.specs.declared.numbers.VarNo.{VarNo}
use Rattle.mm_claims.specs.Blocks.{Stated}
use Rattle.mm_claims.specs.CitedAt.{claim_tree}
use Rattle.mm_proof.specs.Labels.{own_labels}
use Rattle.mm_proof.specs.Listings.{Builds}
use Rattle.mm_proof.specs.Trees.{instance_tree, rule_tree, trees_before}
use Rattle.mm_render.specs.Parts.{PutsOver, proofs_by, value_trees}
use Rattle.mm_render.specs.PlaceTable.{found_at}
use Rattle.mm_proof.proofs.Stacking.{on_ok}
use Rattle.mm_render.proofs.PartLaws.{both_ok, builds_both, step_built, step_split}
use Rattle.mm_render.proofs.derivations.take_step.Goals as goal

pub returns-in-Hyp : goal.returns-in-Hyp
returns-in-Hyp c =
    let whole : c.args.derivation.now ≡ hypothesis c.in-Hyp.p =
    sym c.step.ensures ∙ ap derivation_of c.in-Hyp.is in
    rw whole (on_ok c.cite_premise.result (λ built. step_built c.args.at.now
    (hypothesis c.in-Hyp.p) c.args.stack.now.items c.args.table.now c.cite_premise.new.table built
    (omega arith)) c.cite_premise.ensures)

pub returns-in-Axiom : goal.returns-in-Axiom
returns-in-Axiom c =
    let xs : List ℕ = numbers_of c.deref.result.now in
    let found : Stated = found_at c.args.at.now [] c.in-Axiom.p in
    let d : Derivation = own_axiom c.in-Axiom.field-0.0 c.in-Axiom.p xs in
    let whole : c.args.derivation.now ≡ own_axiom c.in-Axiom.field-0.0 c.in-Axiom.p
    (numbers_of c.deref.result.now) =
    sym c.step.ensures ∙ ap derivation_of c.in-Axiom.is
    ∙ ap (λ (ys : List VarNo). own_axiom c.in-Axiom.field-0.0 c.in-Axiom.p (numbers_of ys))
    (sym c.deref.ensures.value) in
    rw whole (both_ok c.start_citation.result (λ values puts. step_split c.args.at.now d
    (λ k. value_trees k xs [] found.claim.variables)
    (λ k at. claim_tree (own_labels k) found xs [] []) 1 c.args.stack.now.items
    c.start_citation.new.stack.items c.args.table.now c.start_citation.new.table values puts
    (λ k. refl) (omega arith)) c.start_citation.ensures.values c.start_citation.ensures.stack)

pub returns-in-Cited : goal.returns-in-Cited
returns-in-Cited c =
    let lemma : Theorem = c.in-Cited.lemma in
    let own : List Pattern = c.hypotheses.result.now in
    let q : Pattern = c.conclusion.result.now in
    let ms : List Pattern = c.deref-in-Cited.result.now in
    let ds : List Derivation = c.deref-in-Cited-2.result.now in
    let found : Stated = found_at c.args.at.now own q in
    let whole : c.args.derivation.now ≡ cited c.hypotheses.result.now c.conclusion.result.now
    c.in-Cited.lemma.derivation c.deref-in-Cited.result.now
    (derivations c.deref-in-Cited-2.result.now) =
    sym c.step.ensures ∙ ap derivation_of c.in-Cited.is
    ∙ ap (λ (ps : List Pattern). cited ps lemma.conclusion lemma.derivation
    c.in-Cited.patterns.items (derivations c.in-Cited.parts.items)) (sym c.hypotheses.ensures.value)
    ∙ ap (λ (r : Pattern). cited own r lemma.derivation c.in-Cited.patterns.items
    (derivations c.in-Cited.parts.items)) (sym c.conclusion.ensures)
    ∙ ap (λ (ps : List Pattern). cited own q lemma.derivation ps
    (derivations c.in-Cited.parts.items)) (sym c.deref-in-Cited.ensures.value)
    ∙ ap (λ (es : List Derivation). cited own q lemma.derivation ms (derivations es))
    (sym c.deref-in-Cited-2.ensures.value) in
    rw whole (both_ok c.start_citation-in-Cited.result (λ values puts. step_split c.args.at.now
    (cited own q lemma.derivation ms (derivations ds))
    (λ k. value_trees k [] ms found.claim.variables)
    (λ k at. claim_tree (own_labels k) found [] ms (proofs_by k at (derivations ds)))
    (3 * all_steps (derivations ds) + 1) c.args.stack.now.items
    c.start_citation-in-Cited.new.stack.items c.args.table.now
    c.start_citation-in-Cited.new.table values puts (λ k. refl) (omega arith))
    c.start_citation-in-Cited.ensures.values c.start_citation-in-Cited.ensures.stack)

pub returns-in_ok-prove_before-in-ByRule : goal.returns-in_ok-prove_before-in-ByRule
returns-in_ok-prove_before-in-ByRule c =
    let r : Rule = c.in-ByRule.rule in
    let items : List Inst = c.in-ByRule.instances.items in
    let is : List Instance = instances_of items in
    let ds : List Derivation = c.in-ByRule.parts.items in
    let whole : c.args.derivation.now ≡ by_rule c.in-ByRule.rule
    (instances_of c.in-ByRule.instances.items) (derivations c.in-ByRule.parts.items) =
    sym c.step.ensures ∙ ap derivation_of c.in-ByRule.is in
    rw whole (on_ok c.put_rule.result (λ puts. step_split c.args.at.now
    (by_rule r is (derivations ds))
    (λ k. map (instance_tree (own_labels k)) is ++ trees_before (own_labels k) r is)
    (λ k at. rule_tree (own_labels k) r is (proofs_by k at (derivations ds)))
    (3 * all_steps (derivations ds) + 2) c.args.stack.now.items c.put_rule.new.stack.items
    c.args.table.now c.prove_before.new.table
    (builds_both (λ k. map (instance_tree (own_labels k)) is)
    (λ k. trees_before (own_labels k) r is) c.args.table.now c.prove_instances.new.table
    c.prove_before.new.table
    (subst (λ (js : List Inst). Builds (λ k. map (instance_tree (own_labels k)) (instances_of js))
    c.args.table.now c.prove_instances.new.table) c.deref-in-ByRule.ensures.value
    c.in_ok-prove_instances-in-ByRule.ensures)
    (subst (λ (js : List Inst). Builds (λ k. trees_before (own_labels k) r (instances_of js))
    c.prove_instances.new.table c.prove_before.new.table) c.deref-in-ByRule-2.ensures.value
    c.in_ok-prove_before-in-ByRule.ensures))
    (subst (λ (es : List Derivation). PutsOver
    (λ k at. map (instance_tree (own_labels k)) is ++ trees_before (own_labels k) r is)
    (λ k at. rule_tree (own_labels k) r is (proofs_by k at (derivations es)))
    (3 * all_steps (derivations es) + 2) c.args.stack.now.items c.put_rule.new.stack.items)
    c.deref-in-ByRule-4.ensures.value
    (subst (λ (js : List Inst). PutsOver
    (λ k at. map (instance_tree (own_labels k)) (instances_of js)
    ++ trees_before (own_labels k) r (instances_of js))
    (λ k at. rule_tree (own_labels k) r (instances_of js)
    (proofs_by k at (derivations c.deref-in-ByRule-4.result.now)))
    (3 * all_steps (derivations c.deref-in-ByRule-4.result.now) + 2) c.args.stack.now.items
    c.put_rule.new.stack.items) c.deref-in-ByRule-3.ensures.value puts))
    (λ k. refl) (omega arith)) c.put_rule.ensures)
