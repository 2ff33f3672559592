use Rattle.std.proofs.Common.{◌≡◌, ℕ, List, map, length, Option, Some, ap, sym, ◌∙◌, subst}
use Rattle.std.specs.Borrow.{Bor}
use Rattle.std.proofs.lemmas.List.{length-map}
use Rattle.kore_ast.specs.declared.tree.Pat.{Pat}
use Rattle.kore_ast.specs.Plain.{pattern_tree, plain_axiom_decl}
use Rattle.kore_text.specs.Trees.{PatternTree}
use Rattle.term_core.specs.declared.rule_patterns.RulePat.{RulePat}
use Rattle.kore_check.specs.Folds.{unfolded}
use Rattle.kore_shapes.specs.Shapes.{Condition}
use Rattle.kore_shapes.specs.EquationForms.{EquationParts}
use Rattle.kore_shapes.specs.PartViews.{plain_parts}
use Rattle.kore_shapes.specs.StatementViews.{plain_statement}
use Rattle.kore_shapes.specs.Views.{pattern_at, plain_condition}
use Rattle.kore_axioms.specs.Priorities.{priority_of}
use Rattle.kore_equations.specs.ReadableSides.{all_read}
use Rattle.kore_equations.specs.ReadableEquations.{condition_of_equation}
use Rattle.kore_equations.specs.BuiltEquations.{AreBuilt, AreBuiltOf, IsMeantBound}
use Rattle.kore_equations.specs.declared.patterns.Sides.{Sides}
use Rattle.kore_equations.proofs.MadeEquations.{parts_meant}
use Rattle.kore_equations.proofs.readings.equation_of.Goals as goal

pub returns : goal.returns
returns c =
    let sig = c.args.sig.now in
    let a = plain_axiom_decl c.args.decl.now in
    let e = plain_statement c.args.stated.now in
    let q : EquationParts = plain_parts c.args.parts.now in
    let over : Condition = condition_of_equation sig e q in
    let n : ℕ = c.in_ok-ok_or.field-0 in
    let built : AreBuiltOf sig q.patterns over c.in-Some.sides =
    subst (λ (k : Condition). AreBuilt sig q.patterns k (Some c.in-Some.sides))
    c.condition_of-condition.ensures
    (subst (λ (ps : List (Bor Pat)). AreBuilt sig (map pattern_at ps)
    (plain_condition c.condition_of-condition.result) (Some c.in-Some.sides))
    c.deref.ensures.value
    (subst (AreBuilt sig (map pattern_at c.deref.result.now)
    (plain_condition c.condition_of-condition.result)) c.in-Some.is c.in_ok-sides.ensures)) in
    let meant : IsMeantBound sig (all_read q.patterns) (unfolded q.right) c.bound_pattern.new.vars
    (Some c.in-Some-2.right) =
    subst (λ (o : Option RulePat).
    IsMeantBound sig (all_read q.patterns) (unfolded q.right) c.bound_pattern.new.vars o)
    c.in-Some-2.is (c.in_ok-right.ensures (all_read q.patterns) built.numbered) in
    let count : n ≡ length q.parameters =
    (rw c.in_ok-ok_or.ensures.ok_part at c.as_number.ensures.fits)
    ∙ sym (length-map c.args.parts.now.parameters.now pattern_tree) in
    let priority : c.priority_of.result ≡ priority_of a.attributes =
    c.priority_of.ensures
    ∙ ap (λ (attrs : List Pat). priority_of (map pattern_tree attrs)) c.deref-2.ensures.value in
    parts_meant sig c.args.function.0 a e q c.args.guards c.in-Some.sides c.in-Some-2.right
    c.bound_pattern.new.vars c.into_infos.result n c.priority_of.result built meant
    c.into_infos.ensures count priority
