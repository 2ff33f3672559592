use Rattle.std.proofs.Common.{Some, None}
use Rattle.true_facts.specs.Values.{IsValueAt, typed_found, typed_value}
use Rattle.true_facts.proofs.OnlyLaws.{only_at}
use Rattle.true_facts.proofs.HookFactLaws.{number_absent, number_other, number_only}
use Rattle.true_facts.proofs.hook_facts.number_at.Goals as goal

pub returns-in_default : goal.returns-in_default
returns-in_default c =
    number_absent (IsValueAt c.args.sig.now c.args.names.now c.args.pattern.now)
    (only_at (IsValueAt c.args.sig.now c.args.names.now c.args.pattern.now) typed_found
    c.in_ok-typed.field-0 None c.in_default.is c.in_ok-typed.ensures)

pub returns-in-Some-scalar_of : goal.returns-in-Some-scalar_of
returns-in-Some-scalar_of c =
    number_only (IsValueAt c.args.sig.now c.args.names.now c.args.pattern.now)
    (typed_value c.in-Some.typed) c.in-Some-scalar_of.scalar
    (only_at (IsValueAt c.args.sig.now c.args.names.now c.args.pattern.now) typed_found
    c.in_ok-typed.field-0 (Some c.in-Some.typed) c.in-Some.is c.in_ok-typed.ensures)
    c.in-Some-scalar_of.ensures

pub returns : goal.returns
returns c =
    number_other (IsValueAt c.args.sig.now c.args.names.now c.args.pattern.now)
    (typed_value c.in-Some.typed)
    (only_at (IsValueAt c.args.sig.now c.args.names.now c.args.pattern.now) typed_found
    c.in_ok-typed.field-0 (Some c.in-Some.typed) c.in-Some.is c.in_ok-typed.ensures)
    c.in-None.ensures
