use Rattle.std.proofs.Common.{Some, None}
use Rattle.true_facts.specs.Constructors.{IsMade, made_found, declaration_of}
use Rattle.true_facts.specs.Values.{IsValueAt, typed_found, typed_value}
use Rattle.true_facts.proofs.OnlyLaws.{only_at}
use Rattle.true_facts.proofs.SideLaws.{value_head, constructor_head, no_head}
use Rattle.true_facts.proofs.sides.head_at.Goals as goal

pub returns-in-Some : goal.returns-in-Some
returns-in-Some c =
    value_head c.args.sig.now c.args.names.now c.args.pattern.now c.args.first
    (typed_value c.in-Some.typed)
    (only_at (IsValueAt c.args.sig.now c.args.names.now c.args.pattern.now) typed_found
    c.in_ok-typed.field-0 (Some c.in-Some.typed) c.in-Some.is c.in_ok-typed.ensures)

pub returns-in_default-2 : goal.returns-in_default-2
returns-in_default-2 c =
    no_head c.args.sig.now c.args.names.now c.args.pattern.now c.args.first
    (only_at (IsValueAt c.args.sig.now c.args.names.now c.args.pattern.now) typed_found
    c.in_ok-typed.field-0 None c.in_default.is c.in_ok-typed.ensures)
    (only_at (IsMade c.args.sig.now c.args.names.now c.args.pattern.now c.args.first) made_found
    c.in_ok-made.field-0 None c.in_default-2.is c.in_ok-made.ensures)

pub returns : goal.returns
returns c =
    constructor_head c.args.sig.now c.args.names.now c.args.pattern.now c.args.first
    (c.in-Some-2.made.symbol, declaration_of c.in-Some-2.made.declared)
    (only_at (IsMade c.args.sig.now c.args.names.now c.args.pattern.now c.args.first) made_found
    c.in_ok-made.field-0 (Some c.in-Some-2.made) c.in-Some-2.is c.in_ok-made.ensures)
