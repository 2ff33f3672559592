use Rattle.std.proofs.Common.{◌≡◌, ◌+◌, ℕ, List, length, map, sym, arith, subst}
use Rattle.ml_kernel.specs.Theorems.{Theorem}
use Rattle.term_core.specs.Forests.{forest}
use Rattle.rule_core.specs.ProgramView.{guard_of, sorts_of, theory_of}
use Rattle.rule_core.specs.Theories.{equations_of}
use Rattle.rule_core.specs.declared.records.Miss.{Miss}
use Rattle.rule_core.specs.declared.rules.Guard.{Guard}
use Rattle.refute_guard.specs.Guards.{DenyGuards}
use Rattle.ml_image.proofs.ConditionLaws.{length-sorts_of}
use Rattle.prove_fun.specs.Denying.{CanDeny}
use Rattle.prove_fun.specs.Using.{missed_record}
use Rattle.prove_fun.proofs.GuardLaws.{can_deny, most_after}
use Rattle.prove_fun.proofs.denying.denied_guards.Goals as goal

pub overflow_cast-first : goal.overflow_cast-first
overflow_cast-first c =
    let d =
    can_deny c.args.cx.now c.args.symbol.0 (forest c.args.terms.now) c.args.equation.now
    c.args.used.now c.in-Some.guards c.args.values.now c.requires.ready c.requires.equation
    c.requires.used c.requires.values c.in-Some.is in
    omega (
      arith,
      c.len.ensures,
      c.args.equation.now.vars.ok,
      length-sorts_of c.args.equation.now.vars.items,
      d.few,
      most_after (c.args.equation.now.params + length (sorts_of c.args.equation.now.vars.items))
          (map guard_of c.in-Some.guards.items),
    )

pub overflow_add-first : goal.overflow_add-first
overflow_add-first c =
    let d =
    can_deny c.args.cx.now c.args.symbol.0 (forest c.args.terms.now) c.args.equation.now
    c.args.used.now c.in-Some.guards c.args.values.now c.requires.ready c.requires.equation
    c.requires.used c.requires.values c.in-Some.is in
    omega (
      arith,
      c.len.ensures,
      c.args.equation.now.vars.ok,
      length-sorts_of c.args.equation.now.vars.items,
      d.few,
      most_after (c.args.equation.now.params + length (sorts_of c.args.equation.now.vars.items))
          (map guard_of c.in-Some.guards.items),
    )

pub all_denied-requires : goal.all_denied-requires
all_denied-requires c =
    let d =
    can_deny c.args.cx.now c.args.symbol.0 (forest c.args.terms.now) c.args.equation.now
    c.args.used.now c.in-Some.guards c.args.values.now c.requires.ready c.requires.equation
    c.requires.used c.requires.values c.in-Some.is in
    let first : c.args.equation.now.params + length (sorts_of c.args.equation.now.vars.items) ≡
    c.args.equation.now.params + c.len.result =
    omega (
      arith,
      c.len.ensures,
      c.args.equation.now.vars.ok,
      length-sorts_of c.args.equation.now.vars.items,
    ) in
    subst (λ (n : ℕ). CanDeny c.args.cx.now c.args.symbol.0 n (map guard_of c.deref.result.now)
    (forest c.args.terms.now) (map missed_record c.deref-2.result.now) c.args.values.now) first
    (subst (λ (gs : List Guard). CanDeny c.args.cx.now c.args.symbol.0
    (c.args.equation.now.params + length (sorts_of c.args.equation.now.vars.items))
    (map guard_of gs) (forest c.args.terms.now) (map missed_record c.deref-2.result.now)
    c.args.values.now) (sym c.deref.ensures.value)
    (subst (λ (ms : List Miss). CanDeny c.args.cx.now c.args.symbol.0
    (c.args.equation.now.params + length (sorts_of c.args.equation.now.vars.items))
    (map guard_of c.in-Some.guards.items) (forest c.args.terms.now) (map missed_record ms)
    c.args.values.now) (sym c.deref-2.ensures.value) d))

pub no_guard-requires : goal.no_guard-requires
no_guard-requires c = (
  c.all_denied.new.cx,
  equations_of (theory_of c.args.cx.now.program) c.args.symbol.0,
  c.args.equation.now.params + c.len.result,
  map guard_of c.deref.result.now,
  forest c.args.terms.now,
  subst (λ (ds : List Theorem). DenyGuards c.all_denied.new.cx
      (equations_of (theory_of c.args.cx.now.program) c.args.symbol.0)
      (c.args.equation.now.params + c.len.result) (map guard_of c.deref.result.now)
      (forest c.args.terms.now) ds) (sym c.deref-3.ensures.value) c.in_ok-denied.ensures.denied,
)
