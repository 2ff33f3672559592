use Rattle.std.proofs.Common.{◌≡◌, ◌≢◌, ◌<◌, ◌+◌, ◌^◌, List, Some, All, Vec, Global}
use Rattle.std.proofs.Common.{option_map, length, map, ap, subst, arith}
use Rattle.rule_core.specs.Rules.{Equation, Guard}
use Rattle.rule_core.specs.ProgramView.{sorts_of, guard_of, function_equation}
use Rattle.rule_core.specs.declared.rules.Guard.{Guard as CodeGuard}
use Rattle.ml_image.specs.Sentences.{IsImageOf}
use Rattle.ml_image.specs.LastResorts.{guards_sentence}
use Rattle.ml_image.specs.HasImages.{IsGuard, after_guards}
use Rattle.ml_image.proofs.ConditionLaws.{length-sorts_of}
use Rattle.ml_image.proofs.LastResortLaws.{after_more, fitting, held_last}
use Rattle.ml_image.proofs.rules.held_image.Goals as goal

pub overflow_add-first : goal.overflow_add-first
overflow_add-first c =
    let e : Equation = function_equation c.args.equation.now in
    let gs : List Guard = map guard_of c.in-Some.guards.items in
    let fits : (e.parameters ≢ 0)
    × All (IsGuard (map function_equation c.args.equations.now)) gs
    × (after_guards (e.parameters + length e.variables) gs < 2 ^ 32) =
    fitting (map function_equation c.args.equations.now) e gs c.requires.guards
    (ap (option_map (λ (v : Vec CodeGuard Global). map guard_of v.items)) c.in-Some.is) in
    omega (
      arith,
      fits.2,
      after_more (e.parameters + length e.variables) gs,
      length-sorts_of c.args.equation.now.vars.items,
      c.len.ensures,
    )

pub returns-in_ok-not-in-Some-clause-image : goal.returns-in_ok-not-in-Some-clause-image
returns-in_ok-not-in-Some-clause-image c =
    let e : Equation = function_equation c.args.equation.now in
    let gs : List Guard = map guard_of c.in-Some.guards.items in
    let first : c.args.equation.now.params + c.len.result
    ≡ c.args.equation.now.params + length (sorts_of c.args.equation.now.vars.items) =
    omega (arith, length-sorts_of c.args.equation.now.vars.items, c.len.ensures) in
    held_last c.args.sig.now c.premise_image.new.names c.guards_image.new.names
    (map function_equation c.args.equations.now) e gs
    (c.args.equation.now.params + c.len.result) c.in_ok-premise.premise
    c.in_ok-guards-in-Some.guards c.in_ok-not-in-Some.field-0 c.and.result
    c.guards_image.ensures.names
    (ap (option_map (λ (v : Vec CodeGuard Global). map guard_of v.items)) c.in-Some.is)
    first c.in_ok-premise.ensures.image
    (subst (λ (hs : List CodeGuard). IsImageOf c.args.sig.now c.guards_image.new.names (λ s.
    guards_sentence c.args.sig.now (map function_equation c.args.equations.now)
    (c.args.equation.now.params + c.len.result) (map guard_of hs) ≡ Some s)
    c.in_ok-guards-in-Some.guards) c.deref.ensures.value
    c.in_ok-guards-in-Some.ensures.image)
    c.in_ok-not-in-Some.ensures c.and.ensures
