use Rattle.std.proofs.Common.{◌≡◌, Bool, List, map, Option, Some, None, true, subst, sym, ◌∙◌, ap}
use Rattle.std.specs.Borrow.{Bor}
use Rattle.kore_ast.specs.Plain.{plain_sort}
use Rattle.kore_ast.specs.declared.tree.Pat.{Pat}
use Rattle.rule_core.specs.ProgramView.{function_equation}
use Rattle.kore_shapes.specs.Shapes.{Condition}
use Rattle.kore_shapes.specs.Views.{pattern_at, plain_condition}
use Rattle.kore_shapes.specs.ResortViews.{plain_guard}
use Rattle.kore_axioms.specs.Conditions.{over_bool}
use Rattle.kore_equations.specs.Guards.{condition_of_guard}
use Rattle.kore_equations.specs.ClearEquations.{are_clear}
use Rattle.kore_equations.specs.BuiltEquations.{AreBuilt}
use Rattle.kore_equations.specs.declared.patterns.Sides.{Sides}
use Rattle.kore_equations.proofs.FineLaws.{fine_sides}
use Rattle.kore_equations.proofs.GuardLaws.{unclear_repeats_none, unbuilt_repeats_none, guard_read}
use Rattle.kore_equations.proofs.MeantLaws.{if_ok}
use Rattle.kore_equations.proofs.guards.read_guard.Goals as goal

pub returns-then-not-are_clear : goal.returns-then-not-are_clear
returns-then-not-are_clear c =
    let sig = c.args.sig.now in
    let info = c.args.symbol.now in
    let over = plain_sort c.args.over.now in
    let g = plain_guard c.args.guard.now in
    let k = c.over_bool-condition.ensures ∙ ap (over_bool sig) c.given_condition.ensures in
    unclear_repeats_none sig info over (map function_equation c.args.others.now) g
    (sym (c.are_clear.ensures
    ∙ ap (λ (ps : List (Bor Pat)). are_clear sig info (map pattern_at ps)
    (plain_condition c.over_bool-condition.result)) c.deref.ensures.value
    ∙ ap (are_clear sig info g.patterns) k) ∙ c.if-not-are_clear.true)

pub built_sides-requires-clause-fine : goal.built_sides-requires-clause-fine
built_sides-requires-clause-fine c =
    let sig = c.args.sig.now in
    let info = c.args.symbol.now in
    let k = plain_condition c.over_bool-condition.result in
    fine_sides sig info (map pattern_at c.deref-2.result.now) k
    (ap (λ (ps : List (Bor Pat)). are_clear sig info (map pattern_at ps) k)
    (c.deref-2.ensures.value ∙ sym c.deref.ensures.value)
    ∙ sym c.are_clear.ensures ∙ c.if-not-are_clear.false)

pub returns-in-Some : goal.returns-in-Some
returns-in-Some c =
    let sig = c.args.sig.now in
    let info = c.args.symbol.now in
    let over = plain_sort c.args.over.now in
    let g = plain_guard c.args.guard.now in
    let es = map function_equation c.args.others.now in
    let k = c.over_bool-condition.ensures ∙ ap (over_bool sig) c.given_condition.ensures in
    let clear : are_clear sig info g.patterns (condition_of_guard sig over g) ≡ true =
    sym (c.are_clear.ensures
    ∙ ap (λ (ps : List (Bor Pat)). are_clear sig info (map pattern_at ps)
    (plain_condition c.over_bool-condition.result)) c.deref.ensures.value
    ∙ ap (are_clear sig info g.patterns) k) ∙ c.if-not-are_clear.false in
    let built : AreBuilt sig g.patterns (condition_of_guard sig over g) (Some c.in-Some.sides) =
    subst (λ (x : Condition). AreBuilt sig g.patterns x (Some c.in-Some.sides)) k
    (subst (λ (ps : List (Bor Pat)). AreBuilt sig (map pattern_at ps)
    (plain_condition c.over_bool-condition.result) (Some c.in-Some.sides)) c.deref-2.ensures.value
    (subst (AreBuilt sig (map pattern_at c.deref-2.result.now)
    (plain_condition c.over_bool-condition.result)) c.in-Some.is c.in_ok-sides.ensures)) in
    if_ok c.guard_of.result
    (λ o made. guard_read sig info over es g c.in-Some.sides o clear built made) c.guard_of.ensures

pub returns-in-None : goal.returns-in-None
returns-in-None c =
    let sig = c.args.sig.now in
    let over = plain_sort c.args.over.now in
    let g = plain_guard c.args.guard.now in
    let k = c.over_bool-condition.ensures ∙ ap (over_bool sig) c.given_condition.ensures in
    unbuilt_repeats_none sig c.args.symbol.now over (map function_equation c.args.others.now) g
    (subst (λ (x : Condition). AreBuilt sig g.patterns x None) k
    (subst (λ (ps : List (Bor Pat)). AreBuilt sig (map pattern_at ps)
    (plain_condition c.over_bool-condition.result) None) c.deref-2.ensures.value
    (subst (AreBuilt sig (map pattern_at c.deref-2.result.now)
    (plain_condition c.over_bool-condition.result)) c.in-None.is c.in_ok-sides.ensures)))
