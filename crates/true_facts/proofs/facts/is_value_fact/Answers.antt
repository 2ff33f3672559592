use Rattle.std.proofs.Common.{Some, None}
use Rattle.ml_image.proofs.ImageLaws.{none_some}
use Rattle.true_facts.specs.Values.{IsValueAt, typed_found, typed_value}
use Rattle.true_facts.proofs.OnlyLaws.{only_at, is_false}
use Rattle.true_facts.proofs.ValueFactLaws.{IsValueFact, value_shape, value_found_there}
use Rattle.true_facts.proofs.ValueFactLaws.{value_fact_test}
use Rattle.true_facts.proofs.facts.is_value_fact.Goals as goal

pub returns-in_default : goal.returns-in_default
returns-in_default c =
    is_false (IsValueFact c.args.sig.now c.args.names.now c.args.pattern.now) (λ h.
    let s = value_shape c.args.sig.now c.args.names.now c.args.pattern.now h in
    c.in_default.ensures s.of s.number s.is_fun)

pub returns-in_default-2 : goal.returns-in_default-2
returns-in_default-2 c =
    is_false (IsValueFact c.args.sig.now c.args.names.now c.args.pattern.now) (λ h.
    let x = value_found_there c.args.sig.now c.args.names.now c.args.pattern.now c.in-Some.of.now
    c.in-Some.sort.0 None c.in-Some.ensures
    (only_at (IsValueAt c.args.sig.now c.args.names.now c.in-Some.of.now) typed_found
    c.in_ok-typed.field-0 None c.in_default-2.is c.in_ok-typed.ensures) h in
    none_some x.0 x.1)

pub returns : goal.returns
returns c =
    value_fact_test c.args.sig.now c.args.names.now c.args.pattern.now c.in-Some.of.now
    c.in-Some.sort.0 (typed_value c.in-Some-2.typed) c.is_sort.result c.in-Some.ensures
    (only_at (IsValueAt c.args.sig.now c.args.names.now c.in-Some.of.now) typed_found
    c.in_ok-typed.field-0 (Some c.in-Some-2.typed) c.in-Some-2.is c.in_ok-typed.ensures)
    c.is_sort.ensures
