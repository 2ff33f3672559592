use Rattle.std.proofs.Common.{◌≡◌, ℕ, List, Option, Some, None, refl}
use Rattle.ml_image.proofs.ImageLaws.{none_some}
use Rattle.ml_pat.specs.Patterns.{Pattern}
use Rattle.rule_core.specs.declared.signature.Signature.{Signature}
use Rattle.true_facts.specs.Only.{IsOnly}
use Rattle.true_facts.specs.Hooks.{IsNumberAt, number_found}
use Rattle.true_facts.specs.declared.hook_facts.Sorted.{Sorted}
use Rattle.true_facts.proofs.OnlyLaws.{only_at, is_false}
use Rattle.true_facts.proofs.HookShapes.{IsHookFact, fact_one, fact_two, value_there}
use Rattle.true_facts.proofs.HookShapes.{no_call, last_there, one_there, first_there, two_there}
use Rattle.true_facts.proofs.HookShapes.{call_there, pair}
use Rattle.true_facts.proofs.hook_facts.is_hook_fact.Goals as goal

-- what was found is the only number at the pattern
found : (sig : Signature) (names : List (List ℕ)) (p : Pattern) (o r : Option Sorted) → o ≡ r
    → IsOnly (IsNumberAt sig names p) (number_found o)
    → IsOnly (IsNumberAt sig names p) (number_found r)
found sig names p o r same one = only_at (IsNumberAt sig names p) number_found o r same one

pub returns-in_default-2 : goal.returns-in_default-2
returns-in_default-2 c =
    is_false (IsHookFact c.args.sig.now c.args.names.now c.args.pattern.now) (λ h.
    let v = value_there c.args.sig.now c.args.names.now c.args.pattern.now c.in-Some.call.now
    c.in-Some.made.now None c.in-Some.ensures
    (found c.args.sig.now c.args.names.now c.in-Some.made.now c.in_ok-value.field-0 None
    c.in_default-2.is c.in_ok-value.ensures) h in
    none_some v.0 v.1)

pub returns-in_default-as_app : goal.returns-in_default-as_app
returns-in_default-as_app c =
    is_false (IsHookFact c.args.sig.now c.args.names.now c.args.pattern.now) (λ h.
    no_call c.args.sig.now c.args.names.now c.in-Some.call.now (pair c.in-Some-2.value)
    c.in_default-as_app.ensures
    (call_there c.args.sig.now c.args.names.now c.args.pattern.now c.in-Some.call.now
    c.in-Some.made.now (pair c.in-Some-2.value) c.in-Some.ensures
    (found c.args.sig.now c.args.names.now c.in-Some.made.now c.in_ok-value.field-0
    (Some c.in-Some-2.value) c.in-Some-2.is c.in_ok-value.ensures) h))

pub returns-in_default-3 : goal.returns-in_default-3
returns-in_default-3 c =
    is_false (IsHookFact c.args.sig.now c.args.names.now c.args.pattern.now) (λ h.
    let a = last_there c.args.sig.now c.args.names.now c.in-Some.call.now
    c.in-Some-as_app.rest.now c.in-Some-as_app.arg.now (pair c.in-Some-2.value) None
    c.in-Some-as_app.ensures
    (found c.args.sig.now c.args.names.now c.in-Some-as_app.arg.now c.in_ok-last.field-0 None
    c.in_default-3.is c.in_ok-last.ensures)
    (call_there c.args.sig.now c.args.names.now c.args.pattern.now c.in-Some.call.now
    c.in-Some.made.now (pair c.in-Some-2.value) c.in-Some.ensures
    (found c.args.sig.now c.args.names.now c.in-Some.made.now c.in_ok-value.field-0
    (Some c.in-Some-2.value) c.in-Some-2.is c.in_ok-value.ensures) h) in
    none_some a.0 a.1)

pub returns-in_default-as_app-2 : goal.returns-in_default-as_app-2
returns-in_default-as_app-2 c =
    let value : IsOnly (IsNumberAt c.args.sig.now c.args.names.now c.in-Some.made.now)
    (number_found (Some c.in-Some-2.value)) =
    found c.args.sig.now c.args.names.now c.in-Some.made.now c.in_ok-value.field-0
    (Some c.in-Some-2.value) c.in-Some-2.is c.in_ok-value.ensures in
    let last : IsOnly (IsNumberAt c.args.sig.now c.args.names.now c.in-Some-as_app.arg.now)
    (number_found (Some c.in-Some-3.last)) =
    found c.args.sig.now c.args.names.now c.in-Some-as_app.arg.now c.in_ok-last.field-0
    (Some c.in-Some-3.last) c.in-Some-3.is c.in_ok-last.ensures in (
      λ t. fact_one c.args.sig.now c.args.names.now c.args.pattern.now c.in-Some.call.now
          c.in-Some.made.now c.in-Some-as_app.rest.now c.in-Some-as_app.arg.now
          (pair c.in-Some-3.last) (pair c.in-Some-2.value) c.in-Some.ensures
          c.in-Some-as_app.ensures ((value (pair c.in-Some-2.value)).1 refl)
          ((last (pair c.in-Some-3.last)).1 refl) (c.computes_one.ensures.0 t),
      λ h. c.computes_one.ensures.1 (one_there c.args.sig.now c.args.names.now c.in-Some.call.now
          c.in-Some-as_app.rest.now c.in-Some-as_app.arg.now (pair c.in-Some-2.value)
          (pair c.in-Some-3.last) c.in-Some-as_app.ensures last c.in_default-as_app-2.ensures
          (call_there c.args.sig.now c.args.names.now c.args.pattern.now c.in-Some.call.now
          c.in-Some.made.now (pair c.in-Some-2.value) c.in-Some.ensures value h)),
    )

pub returns-in_default-4 : goal.returns-in_default-4
returns-in_default-4 c =
    is_false (IsHookFact c.args.sig.now c.args.names.now c.args.pattern.now) (λ h.
    let a = first_there c.args.sig.now c.args.names.now c.in-Some.call.now
    c.in-Some-as_app.rest.now c.in-Some-as_app.arg.now c.in-Some-as_app-2.head.now
    c.in-Some-as_app-2.arg.now (pair c.in-Some-2.value) None c.in-Some-as_app.ensures
    c.in-Some-as_app-2.ensures
    (found c.args.sig.now c.args.names.now c.in-Some-as_app-2.arg.now c.in_ok-first.field-0 None
    c.in_default-4.is c.in_ok-first.ensures)
    (call_there c.args.sig.now c.args.names.now c.args.pattern.now c.in-Some.call.now
    c.in-Some.made.now (pair c.in-Some-2.value) c.in-Some.ensures
    (found c.args.sig.now c.args.names.now c.in-Some.made.now c.in_ok-value.field-0
    (Some c.in-Some-2.value) c.in-Some-2.is c.in_ok-value.ensures) h) in
    none_some a.0 a.1)

pub returns : goal.returns
returns c =
    let value : IsOnly (IsNumberAt c.args.sig.now c.args.names.now c.in-Some.made.now)
    (number_found (Some c.in-Some-2.value)) =
    found c.args.sig.now c.args.names.now c.in-Some.made.now c.in_ok-value.field-0
    (Some c.in-Some-2.value) c.in-Some-2.is c.in_ok-value.ensures in
    let last : IsOnly (IsNumberAt c.args.sig.now c.args.names.now c.in-Some-as_app.arg.now)
    (number_found (Some c.in-Some-3.last)) =
    found c.args.sig.now c.args.names.now c.in-Some-as_app.arg.now c.in_ok-last.field-0
    (Some c.in-Some-3.last) c.in-Some-3.is c.in_ok-last.ensures in
    let first : IsOnly (IsNumberAt c.args.sig.now c.args.names.now c.in-Some-as_app-2.arg.now)
    (number_found (Some c.in-Some-4.first)) =
    found c.args.sig.now c.args.names.now c.in-Some-as_app-2.arg.now c.in_ok-first.field-0
    (Some c.in-Some-4.first) c.in-Some-4.is c.in_ok-first.ensures in (
      λ t. fact_two c.args.sig.now c.args.names.now c.args.pattern.now c.in-Some.call.now
          c.in-Some.made.now c.in-Some-as_app.rest.now c.in-Some-as_app-2.head.now
          c.in-Some-as_app-2.arg.now c.in-Some-as_app.arg.now (pair c.in-Some-4.first)
          (pair c.in-Some-3.last) (pair c.in-Some-2.value) c.in-Some.ensures
          c.in-Some-as_app.ensures c.in-Some-as_app-2.ensures
          ((value (pair c.in-Some-2.value)).1 refl) ((first (pair c.in-Some-4.first)).1 refl)
          ((last (pair c.in-Some-3.last)).1 refl) (c.computes_two.ensures.0 t),
      λ h. c.computes_two.ensures.1 (two_there c.args.sig.now c.args.names.now c.in-Some.call.now
          c.in-Some-as_app.rest.now c.in-Some-as_app.arg.now c.in-Some-as_app-2.head.now
          c.in-Some-as_app-2.arg.now (pair c.in-Some-2.value) (pair c.in-Some-4.first)
          (pair c.in-Some-3.last) c.in-Some-as_app.ensures c.in-Some-as_app-2.ensures last first
          (call_there c.args.sig.now c.args.names.now c.args.pattern.now c.in-Some.call.now
          c.in-Some.made.now (pair c.in-Some-2.value) c.in-Some.ensures value h)),
    )
