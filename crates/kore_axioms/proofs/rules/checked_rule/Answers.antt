use Rattle.std.proofs.Common.{◌≡◌, ℕ, [], List, map, Option, Some, None, true, ap, sym, ◌∙◌, subst}
use Rattle.std.specs.Prelude.{option_map}
use Rattle.std.specs.Borrow.{Bor}
use Rattle.std.proofs.lemmas.Result.{err_from_is_err_and}
use Rattle.kore_text.specs.Trees.{SortTree}
use Rattle.kore_ast.specs.declared.tree.Pat.{Pat}
use Rattle.kore_ast.specs.declared.tree.Sort.{Sort}
use Rattle.kore_ast.specs.Plain.{plain_sort, plain_axiom_decl, pattern_tree as plain_tree}
use Rattle.kore_shapes.specs.Views.{plain_rewriting}
use Rattle.kore_axioms.specs.BuiltRules.{IsFine, IsBuiltOf}
use Rattle.kore_axioms.specs.Priorities.{priority_of}
use Rattle.kore_axioms.specs.Refusals.{Refuses}
use Rattle.kore_axioms.specs.RuleForms.{form_faults}
use Rattle.kore_axioms.specs.RuleFaults.{sorted_faults, FirstOfParts}
use Rattle.kore_axioms.specs.RuleParts.{RuleParts}
use Rattle.kore_axioms.specs.Views.{plain_rule_parts, fault_at}
use Rattle.kore_axioms.proofs.CheckedLaws.{shape_refused, uses_first, all_bound, rule_meant}
use Rattle.kore_axioms.proofs.RuleLaws.{fine_rule}
use Rattle.kore_axioms.proofs.rules.checked_rule.Goals as goal

-- the sort of the first rule, as a tree
abbrev sort_tree : Option (Bor Sort) → Option SortTree
sort_tree first = option_map (λ (s : Bor Sort). plain_sort s.now) first

pub returns-in_err-check_shape-clause-refused : goal.returns-in_err-check_shape-clause-refused
returns-in_err-check_shape-clause-refused c =
    let v = plain_rewriting c.args.rewriting in
    let a = plain_axiom_decl c.args.decl.now in
    let q = err_from_is_err_and c.from_residual.result c.from_residual.ensures.1 in
    rw (q.1, q.2) (subst (λ (w : RuleParts). Refuses
    (FirstOfParts c.args.sig.now (sort_tree c.args.first) a v.sort w)
    c.in_err-check_shape.field-0.0)
    c.rule_parts-parts.ensures
    (shape_refused c.args.sig.now (sort_tree c.args.first) a v.sort
    (plain_rule_parts c.rule_parts-parts.result) c.in_err-check_shape.field-0.0
    c.in_err-check_shape.ensures.refused))

pub rule_patterns-requires-clause-fine : goal.rule_patterns-requires-clause-fine
rule_patterns-requires-clause-fine c =
    let sig = c.args.sig.now in
    let v = plain_rewriting c.args.rewriting in
    let a = plain_axiom_decl c.args.decl.now in
    subst (λ (w : RuleParts). IsFine sig w) (sym c.rule_parts-parts.ensures)
    (fine_rule sig a v c.requires.class
    (subst (λ (w : RuleParts). form_faults a w ≡ []) c.rule_parts-parts.ensures
    c.in_ok-check_shape.ensures.form)
    (subst (λ (w : RuleParts). sorted_faults sig v.sort w ≡ []) c.rule_parts-parts.ensures
    c.in_ok-check_shape.ensures.sorts))

pub returns-in-Some-clause-refused : goal.returns-in-Some-clause-refused
returns-in-Some-clause-refused c =
    let sig = c.args.sig.now in
    let v = plain_rewriting c.args.rewriting in
    let a = plain_axiom_decl c.args.decl.now in
    let at = c.args.decl.now.at in
    let first = sort_tree c.args.first in
    let own : RuleParts = plain_rule_parts c.rule_parts-parts.result in
    let found : FirstOfParts sig first a v.sort own (Some (fault_at at c.in-Some.fault)) =
    uses_first sig first a v.sort own (Some (fault_at at c.in-Some.fault))
    c.in_ok-check_shape.ensures.form
    c.in_ok-check_shape.ensures.sorts
    (sym (ap (option_map (fault_at at)) c.in-Some.is) ∙ c.use_fault.ensures at) in
    subst (λ (w : RuleParts). FirstOfParts sig first a v.sort w
    (Some (record { number = c.number.result; byte = at }))) c.rule_parts-parts.ensures
    (subst
    (λ (n : ℕ). FirstOfParts sig first a v.sort own (Some (record { number = n; byte = at })))
    (sym c.number.ensures) found)

pub returns-clause-clear : goal.returns-clause-clear
returns-clause-clear c =
    let sig = c.args.sig.now in
    let v = plain_rewriting c.args.rewriting in
    let a = plain_axiom_decl c.args.decl.now in
    let at = c.args.decl.now.at in
    let first = sort_tree c.args.first in
    let own : RuleParts = plain_rule_parts c.rule_parts-parts.result in
    subst (λ (w : RuleParts). FirstOfParts sig first a v.sort w None) c.rule_parts-parts.ensures
    (uses_first sig first a v.sort own None c.in_ok-check_shape.ensures.form
    c.in_ok-check_shape.ensures.sorts
    (sym (ap (option_map (fault_at at)) c.in_default.is) ∙ c.use_fault.ensures at))

pub returns-clause-means : goal.returns-clause-means
returns-clause-means c =
    let sig = c.args.sig.now in
    let v = plain_rewriting c.args.rewriting in
    let a = plain_axiom_decl c.args.decl.now in
    let at = c.args.decl.now.at in
    let first = sort_tree c.args.first in
    let made = c.in_ok-made.made in
    let own : RuleParts = plain_rule_parts c.rule_parts-parts.result in
    let yes : made.bound ≡ true =
    c.in_ok-made.ensures.bound
    ∙ all_bound sig first at v.sort own
    (sym (c.use_fault.ensures at) ∙ ap (option_map (fault_at at)) c.in_default.is) in
    let priority : c.priority_of.result ≡ priority_of a.attributes =
    c.priority_of.ensures
    ∙ ap (λ (attrs : List Pat). priority_of (map plain_tree attrs)) c.deref.ensures.value in
    rule_meant sig a v made c.priority_of.result c.requires.class
    (subst (λ (w : RuleParts). IsBuiltOf sig w made) c.rule_parts-parts.ensures
    c.in_ok-made.ensures) yes priority
