use Rattle.std.proofs.Common.{◌≡◌, ℕ, List, map, Option, Some, None, ap, sym, ◌∙◌, subst}
use Rattle.std.proofs.lemmas.Bool.{false≢true}
use Rattle.std.proofs.lemmas.List.Elements.{All-map}
use Rattle.std.specs.Prelude.{All, option_map}
use Rattle.kore_ast.specs.Plain.{pattern_tree, plain_sort, plain_axiom_decl}
use Rattle.kore_ast.specs.declared.tree.Pat.{Pat}
use Rattle.kore_shapes.specs.StatementViews.{plain_statement}
use Rattle.kore_shapes.specs.LastResorts.{LastResortParts}
use Rattle.kore_shapes.specs.ResortViews.{plain_guard, plain_resort}
use Rattle.kore_shapes.specs.declared.last_resorts.GuardParts.{GuardParts}
use Rattle.kore_axioms.specs.Priorities.{priority_of}
use Rattle.rule_core.specs.ProgramView.{function_equation, guard_of}
use Rattle.rule_core.specs.Rules.{ComesBefore}
use Rattle.rule_core.specs.Rules as plain
use Rattle.kore_equations.specs.Guards.{RepeatsSome}
use Rattle.kore_equations.specs.GuardReadings.{AreGuardsRead}
use Rattle.kore_equations.specs.LastResortEquations.{ComesLast}
use Rattle.kore_equations.specs.ClearEquations.{clear_last_resort}
use Rattle.kore_equations.proofs.ClearParts.{clear_resort_is, fine_of_parts}
use Rattle.kore_equations.proofs.MeantLaws.{if_ok, none_unreadable_last, resort_same, meant_last}
use Rattle.kore_equations.proofs.MeantLaws.{each_before}
use Rattle.kore_equations.proofs.readings.meant_last_resort.Goals as goal

pub returns-in_default : goal.returns-in_default
returns-in_default c =
    none_unreadable_last c.args.sig.now c.args.symbol.now (plain_axiom_decl c.args.decl.now)
    (plain_statement c.args.stated.now) (map function_equation c.args.others.now)
    (sym c.in_ok-parts.ensures ∙ ap (option_map plain_resort) c.in_default.is)

pub returns-then-not-ac_free : goal.returns-then-not-ac_free
returns-then-not-ac_free c = λ q r.
    false≢true (sym c.if-not-ac_free.true ∙ c.ac_free.ensures.1 r.no_ac)

pub returns-then-not-comes_last : goal.returns-then-not-comes_last
returns-then-not-comes_last c = λ q r.
    let priority =
    c.priority_of.ensures
    ∙ ap (λ (attrs : List Pat). priority_of (map pattern_tree attrs)) c.deref.ensures.value in
    false≢true (sym c.if-not-comes_last.true ∙ c.comes_last.ensures.1
    (each_before c.args.others.now c.priority_of.result c.args.decl.now.at
    (subst (λ (n : ℕ). All (λ (e : plain.Equation).
    ComesBefore (e.priority, e.place) (n, c.args.decl.now.at))
    (map function_equation c.args.others.now)) (sym priority) r.last)))

pub returns-in_default-2 : goal.returns-in_default-2
returns-in_default-2 c = λ q r.
    let sig = c.args.sig.now in
    let info = c.args.symbol.now in
    let a = plain_axiom_decl c.args.decl.now in
    let e = plain_statement c.args.stated.now in
    let es = map function_equation c.args.others.now in
    let over = plain_sort c.args.stated.now.over.now in
    let p : LastResortParts = plain_resort c.in-Some.parts in
    let clear : clear_last_resort sig a info e ≡ Some p =
    sym c.in_ok-parts.ensures ∙ ap (option_map plain_resort) c.in-Some.is in
    let same : p ≡ q = resort_same sig info a e es p q clear r in
    let none : AreGuardsRead sig info over es p.guards None =
    subst (λ (gs : List GuardParts). AreGuardsRead sig info over es (map plain_guard gs) None)
    c.deref-2.ensures.value
    (subst (AreGuardsRead sig info over es (map plain_guard c.deref-2.result.now))
    c.in_default-2.is c.in_ok-guards.ensures) in
    none (subst (λ (x : LastResortParts). All (RepeatsSome sig info over es) x.guards) (sym same)
    r.guards)

pub equation_of-requires-clause-fine : goal.equation_of-requires-clause-fine
equation_of-requires-clause-fine c =
    let sig = c.args.sig.now in
    let a = plain_axiom_decl c.args.decl.now in
    let e = plain_statement c.args.stated.now in
    let q = plain_resort c.in-Some.parts in
    let clear : clear_last_resort sig a c.args.symbol.now e ≡ Some q =
    sym c.in_ok-parts.ensures ∙ ap (option_map plain_resort) c.in-Some.is in
    fine_of_parts sig a c.args.symbol.now e q.equation
    (clear_resort_is sig a c.args.symbol.now e q clear).clear

pub returns : goal.returns
returns c =
    let sig = c.args.sig.now in
    let info = c.args.symbol.now in
    let a = plain_axiom_decl c.args.decl.now in
    let e = plain_statement c.args.stated.now in
    let es = map function_equation c.args.others.now in
    let over = plain_sort c.args.stated.now.over.now in
    let q : LastResortParts = plain_resort c.in-Some.parts in
    let clear : clear_last_resort sig a info e ≡ Some q =
    sym c.in_ok-parts.ensures ∙ ap (option_map plain_resort) c.in-Some.is in
    let priority =
    c.priority_of.ensures
    ∙ ap (λ (attrs : List Pat). priority_of (map pattern_tree attrs)) c.deref.ensures.value in
    let last : ComesLast es a =
    subst (λ (n : ℕ). All (λ (x : plain.Equation).
    ComesBefore (x.priority, x.place) (n, c.args.decl.now.at)) es) priority
    (All-map (λ (x : plain.Equation).
    ComesBefore (x.priority, x.place) (c.priority_of.result, c.args.decl.now.at))
    function_equation c.args.others.now (c.comes_last.ensures.0 c.if-not-comes_last.false)) in
    let read : AreGuardsRead sig info over es q.guards (Some c.in-Some-2.guards) =
    subst (λ (gs : List GuardParts).
    AreGuardsRead sig info over es (map plain_guard gs) (Some c.in-Some-2.guards))
    c.deref-2.ensures.value
    (subst (AreGuardsRead sig info over es (map plain_guard c.deref-2.result.now))
    c.in-Some-2.is c.in_ok-guards.ensures) in
    if_ok c.equation_of.result
    (λ o made.
    meant_last sig c.args.function.0 info a e es q (map guard_of c.in-Some-2.guards.items) o
    c.requires.class c.requires.declared clear (c.ac_free.ensures.0 c.if-not-ac_free.false) last
    read made) c.equation_of.ensures
