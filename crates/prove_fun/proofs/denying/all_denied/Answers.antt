use Rattle.std.proofs.Common.{◌≡◌, ◌+◌, ℕ, suc, List, Some, map, slice_get, take, sym, ◌∙◌, ap}
use Rattle.std.proofs.Common.{subst, arith}
use Rattle.std.proofs.lemmas.List.{length-map}
use Rattle.ml_kernel.specs.Theorems.{Theorem}
use Rattle.term_core.specs.Forests.{forest}
use Rattle.rule_core.specs.BoundVariables.{IsEquationAt}
use Rattle.rule_core.specs.Guards.{after_guards}
use Rattle.rule_core.specs.ProgramView.{function_equation, guard_of, theory_of}
use Rattle.rule_core.specs.Rules.{Equation as PlainEquation}
use Rattle.rule_core.specs.Theories.{equations_of}
use Rattle.rule_core.specs.declared.rules.Program.{Program}
use Rattle.prove_term.specs.Contexts.{HasGrown}
use Rattle.prove_term.proofs.ContextLaws.{grown_twice}
use Rattle.refute_guard.specs.Guards.{DeniesGuard, DenyGuards}
use Rattle.prove_fun.specs.Denying.{CanDenyOne}
use Rattle.prove_fun.specs.Using.{missed_record}
use Rattle.prove_fun.proofs.GuardLaws.{can_deny_grown, deniable, deny_grown, deny_next}
use Rattle.prove_fun.proofs.GuardLaws.{next_after, within_after}
use Rattle.prove_fun.proofs.Items.{item_mapped, item_there}
use Rattle.prove_fun.proofs.Uses.{same_equation}
use Rattle.prove_fun.proofs.denying.all_denied.Goals as goal

after : (i : ℕ) → suc i ≡ i + 1
after i = omega arith

pub equation_of-equation-requires : goal.equation_of-equation-requires
equation_of-equation-requires c =
    let at =
    item_mapped guard_of c.args.guards.now c.loop-i.i c.index-guards-i.result
    (item_there c.args.guards.now c.loop-i.i c.index-guards-i.result c.loop-i-test.true
    c.index-guards-i.is) in
    let d =
    deniable c.loop-i.cx c.args.symbol.0 c.args.first c.loop-i.i (map guard_of c.args.guards.now)
    (forest c.args.terms.now) (map missed_record c.args.missed.now) c.args.values.now
    (guard_of c.index-guards-i.result)
    (can_deny_grown c.args.cx.now c.loop-i.cx c.args.symbol.0 c.args.first
    (map guard_of c.args.guards.now) (forest c.args.terms.now)
    (map missed_record c.args.missed.now) c.args.values.now c.loop-i.invariant.grown c.requires) at
    in (
      d.equation,
      subst (λ (p : Program). slice_get (equations_of (theory_of p) c.args.symbol.0)
          c.index-guards-i.result.equation ≡ Some d.equation) (sym c.program.ensures) d.there,
    )

pub bounds-missed-number : goal.bounds-missed-number
bounds-missed-number c =
    let at =
    item_mapped guard_of c.args.guards.now c.loop-i.i c.index-guards-i.result
    (item_there c.args.guards.now c.loop-i.i c.index-guards-i.result c.loop-i-test.true
    c.index-guards-i.is) in
    let d =
    deniable c.loop-i.cx c.args.symbol.0 c.args.first c.loop-i.i (map guard_of c.args.guards.now)
    (forest c.args.terms.now) (map missed_record c.args.missed.now) c.args.values.now
    (guard_of c.index-guards-i.result)
    (can_deny_grown c.args.cx.now c.loop-i.cx c.args.symbol.0 c.args.first
    (map guard_of c.args.guards.now) (forest c.args.terms.now)
    (map missed_record c.args.missed.now) c.args.values.now c.loop-i.invariant.grown c.requires) at
    in
    omega (arith, d.within, length-map c.args.missed.now missed_record)

pub bounds-values-number : goal.bounds-values-number
bounds-values-number c =
    let at =
    item_mapped guard_of c.args.guards.now c.loop-i.i c.index-guards-i.result
    (item_there c.args.guards.now c.loop-i.i c.index-guards-i.result c.loop-i-test.true
    c.index-guards-i.is) in
    let d =
    deniable c.loop-i.cx c.args.symbol.0 c.args.first c.loop-i.i (map guard_of c.args.guards.now)
    (forest c.args.terms.now) (map missed_record c.args.missed.now) c.args.values.now
    (guard_of c.index-guards-i.result)
    (can_deny_grown c.args.cx.now c.loop-i.cx c.args.symbol.0 c.args.first
    (map guard_of c.args.guards.now) (forest c.args.terms.now)
    (map missed_record c.args.missed.now) c.args.values.now c.loop-i.invariant.grown c.requires) at
    in
    omega (arith, d.within, c.requires.valued.as_many)

pub denied_by-requires : goal.denied_by-requires
denied_by-requires c =
    let at =
    item_mapped guard_of c.args.guards.now c.loop-i.i c.index-guards-i.result
    (item_there c.args.guards.now c.loop-i.i c.index-guards-i.result c.loop-i-test.true
    c.index-guards-i.is) in
    let d =
    deniable c.loop-i.cx c.args.symbol.0 c.args.first c.loop-i.i (map guard_of c.args.guards.now)
    (forest c.args.terms.now) (map missed_record c.args.missed.now) c.args.values.now
    (guard_of c.index-guards-i.result)
    (can_deny_grown c.args.cx.now c.loop-i.cx c.args.symbol.0 c.args.first
    (map guard_of c.args.guards.now) (forest c.args.terms.now)
    (map missed_record c.args.missed.now) c.args.values.now c.loop-i.invariant.grown c.requires) at
    in
    let missed =
    item_mapped missed_record c.args.missed.now c.index-guards-i.result.equation
    c.index-missed-number.result
    (item_there c.args.missed.now c.index-guards-i.result.equation c.index-missed-number.result
    (omega (arith, d.within, length-map c.args.missed.now missed_record))
    c.index-missed-number.is) in
    let value =
    item_there c.args.values.now c.index-guards-i.result.equation c.index-values-number.result
    (omega (arith, d.within, c.requires.valued.as_many)) c.index-values-number.is in
    let place : IsEquationAt c.loop-i.cx.program c.args.symbol.0 c.index-guards-i.result.equation
    c.equation_of-equation.result.now =
    subst (λ (p : Program). IsEquationAt p c.args.symbol.0 c.index-guards-i.result.equation
    c.equation_of-equation.result.now) c.program.ensures c.equation_of-equation.ensures in
    let own : function_equation c.equation_of-equation.result.now ≡ d.equation =
    same_equation c.loop-i.cx.program c.args.symbol.0 c.index-guards-i.result.equation
    c.equation_of-equation.result.now d.equation place d.there in
    subst (λ (n : ℕ). CanDenyOne c.loop-i.cx
    (function_equation c.equation_of-equation.result.now) n c.index-guards-i.result.order.items
    (forest c.args.terms.now) (missed_record c.index-missed-number.result)
    c.index-values-number.result) (sym c.loop-i.invariant.next)
    (subst (λ (e : PlainEquation). CanDenyOne c.loop-i.cx e
    (after_guards c.args.first (take c.loop-i.i (map guard_of c.args.guards.now)))
    c.index-guards-i.result.order.items (forest c.args.terms.now)
    (missed_record c.index-missed-number.result) c.index-values-number.result) (sym own)
    (d.each (missed_record c.index-missed-number.result) c.index-values-number.result missed value))

pub overflow_cast-next : goal.overflow_cast-next
overflow_cast-next c =
    let at =
    item_mapped guard_of c.args.guards.now c.loop-i.i c.index-guards-i.result
    (item_there c.args.guards.now c.loop-i.i c.index-guards-i.result c.loop-i-test.true
    c.index-guards-i.is) in
    omega (
      arith,
      c.len.ensures,
      c.index-guards-i.result.order.ok,
      c.requires.few,
      within_after c.args.first c.loop-i.i (map guard_of c.args.guards.now)
          (guard_of c.index-guards-i.result) at,
    )

pub overflow_add-next : goal.overflow_add-next
overflow_add-next c =
    let at =
    item_mapped guard_of c.args.guards.now c.loop-i.i c.index-guards-i.result
    (item_there c.args.guards.now c.loop-i.i c.index-guards-i.result c.loop-i-test.true
    c.index-guards-i.is) in
    omega (
      arith,
      c.len.ensures,
      c.index-guards-i.result.order.ok,
      c.requires.few,
      c.loop-i.invariant.next,
      within_after c.args.first c.loop-i.i (map guard_of c.args.guards.now)
          (guard_of c.index-guards-i.result) at,
    )

pub loop-i-preserved : goal.loop-i-preserved
loop-i-preserved c =
    let at =
    item_mapped guard_of c.args.guards.now c.loop-i.i c.index-guards-i.result
    (item_there c.args.guards.now c.loop-i.i c.index-guards-i.result c.loop-i-test.true
    c.index-guards-i.is) in
    let d =
    deniable c.loop-i.cx c.args.symbol.0 c.args.first c.loop-i.i (map guard_of c.args.guards.now)
    (forest c.args.terms.now) (map missed_record c.args.missed.now) c.args.values.now
    (guard_of c.index-guards-i.result)
    (can_deny_grown c.args.cx.now c.loop-i.cx c.args.symbol.0 c.args.first
    (map guard_of c.args.guards.now) (forest c.args.terms.now)
    (map missed_record c.args.missed.now) c.args.values.now c.loop-i.invariant.grown c.requires) at
    in
    let place : IsEquationAt c.loop-i.cx.program c.args.symbol.0 c.index-guards-i.result.equation
    c.equation_of-equation.result.now =
    subst (λ (p : Program). IsEquationAt p c.args.symbol.0 c.index-guards-i.result.equation
    c.equation_of-equation.result.now) c.program.ensures c.equation_of-equation.ensures in
    let own : function_equation c.equation_of-equation.result.now ≡ d.equation =
    same_equation c.loop-i.cx.program c.args.symbol.0 c.index-guards-i.result.equation
    c.equation_of-equation.result.now d.equation place d.there in
    let there =
    subst (λ (p : Program). slice_get (equations_of (theory_of p) c.args.symbol.0)
    c.index-guards-i.result.equation ≡ Some d.equation) c.loop-i.invariant.grown.program d.there in
    let next = c.loop-i.invariant.next in
    let further : HasGrown c.loop-i.cx c.denied_by.new.cx = c.in_ok-denied_by.ensures.grown in
    let one =
    subst (λ (n : ℕ). DeniesGuard c.denied_by.new.cx n c.index-guards-i.result.order.items
    (forest c.args.terms.now) d.equation c.in_ok-denied_by.field-0) next
    (subst (λ (e : PlainEquation). DeniesGuard c.denied_by.new.cx c.loop-i.next
    c.index-guards-i.result.order.items (forest c.args.terms.now) e c.in_ok-denied_by.field-0) own
    c.in_ok-denied_by.ensures.denied) in
    record {
      denied =
          subst (λ (n : ℕ). DenyGuards c.denied_by.new.cx
          (equations_of (theory_of c.args.cx.now.program) c.args.symbol.0) c.args.first
          (take n (map guard_of c.args.guards.now)) (forest c.args.terms.now) c.push.new.self.items)
          (after c.loop-i.i)
          (subst (λ (ds : List Theorem). DenyGuards c.denied_by.new.cx
          (equations_of (theory_of c.args.cx.now.program) c.args.symbol.0) c.args.first
          (take (suc c.loop-i.i) (map guard_of c.args.guards.now)) (forest c.args.terms.now) ds)
          (sym c.in_ok-push.ensures.items)
          (deny_next c.denied_by.new.cx
          (equations_of (theory_of c.args.cx.now.program) c.args.symbol.0) c.args.first c.loop-i.i
          (map guard_of c.args.guards.now) (forest c.args.terms.now) c.loop-i.denied.items
          (guard_of c.index-guards-i.result) d.equation c.in_ok-denied_by.field-0 at there
          (deny_grown c.loop-i.cx c.denied_by.new.cx
          (equations_of (theory_of c.args.cx.now.program) c.args.symbol.0) c.args.first
          (take c.loop-i.i (map guard_of c.args.guards.now)) (forest c.args.terms.now)
          c.loop-i.denied.items further c.loop-i.invariant.denied) one));
      next =
          omega (
            arith,
            next,
            c.len.ensures,
            c.index-guards-i.result.order.ok,
            next_after c.args.first c.loop-i.i (map guard_of c.args.guards.now)
                (guard_of c.index-guards-i.result) at,
          )
          ∙ ap (λ (n : ℕ).
          after_guards c.args.first (take n (map guard_of c.args.guards.now))) (after c.loop-i.i);
      grown = grown_twice c.args.cx.now c.loop-i.cx c.denied_by.new.cx c.loop-i.invariant.grown further;
    }
