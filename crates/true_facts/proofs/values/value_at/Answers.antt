use Rattle.std.proofs.Common.{◌<◌, Some, None, length, sym, ◌∙◌, arith}
use Rattle.term_core.specs.Values.{value_of}
use Rattle.true_facts.specs.Values.{value_found}
use Rattle.true_facts.proofs.OnlyLaws.{only_at}
use Rattle.true_facts.proofs.TokenLaws.{name_there, name_within}
use Rattle.true_facts.proofs.ValueLaws.{HasDigits}
use Rattle.true_facts.proofs.ValueTokenLaws.{not_constant, no_value_prefix, no_last_colon, pieces}
use Rattle.true_facts.proofs.ValueTokenLaws.{no_sort, no_digits, value_is}
use Rattle.true_facts.proofs.values.value_at.Goals as goal

pub returns-in_default : goal.returns-in_default
returns-in_default c =
    not_constant c.args.sig.now c.args.names.now c.args.pattern.now c.in_default.ensures

pub returns-in_default-named : goal.returns-in_default-named
returns-in_default-named c =
    no_value_prefix c.args.sig.now c.args.names.now c.args.pattern.now c.in-Some.number.0
    c.in-Some.ensures c.in_default-named.ensures

pub returns-in_default-at_last_colon : goal.returns-in_default-at_last_colon
returns-in_default-at_last_colon c =
    no_last_colon c.args.sig.now c.args.names.now c.args.pattern.now c.in-Some.number.0
    c.in-Some-named.rest.now c.in-Some.ensures c.in-Some-named.ensures
    c.in_default-at_last_colon.ensures

pub returns-in_default-number : goal.returns-in_default-number
returns-in_default-number c =
    no_sort c.args.sig.now c.args.names.now c.args.pattern.now c.in-Some-at_last_colon.name.now
    c.in-Some-at_last_colon.digits.now c.names_differ.ensures
    (pieces c.args.sig.now c.args.names.now c.args.pattern.now c.in-Some.number.0
    c.in-Some-named.rest.now c.in-Some-at_last_colon.name.now c.in-Some-at_last_colon.digits.now
    c.in-Some.ensures c.in-Some-named.ensures c.in-Some-at_last_colon.ensures)
    (sym c.number.ensures ∙ c.in_default-number.is)

pub kind_at-requires : goal.kind_at-requires
kind_at-requires c =
    name_within c.args.sig.now.sorts c.in-Some-at_last_colon.name.now c.in-Some-number.place
    (name_there c.args.sig.now.sorts c.in-Some-at_last_colon.name.now c.in-Some-number.place
    (sym c.number.ensures ∙ c.in-Some-number.is))

pub returns-in_default-2 : goal.returns-in_default-2
returns-in_default-2 c =
    no_digits c.args.sig.now c.args.names.now c.args.pattern.now c.in-Some-at_last_colon.name.now
    c.in-Some-at_last_colon.digits.now c.in-Some-number.place c.kind_at.result
    c.names_differ.ensures
    (pieces c.args.sig.now c.args.names.now c.args.pattern.now c.in-Some.number.0
    c.in-Some-named.rest.now c.in-Some-at_last_colon.name.now c.in-Some-at_last_colon.digits.now
    c.in-Some.ensures c.in-Some-named.ensures c.in-Some-at_last_colon.ensures)
    (sym c.number.ensures ∙ c.in-Some-number.is) c.kind_at.ensures
    (only_at (HasDigits c.kind_at.result c.in-Some-at_last_colon.digits.now) value_found
    c.in_ok-value.field-0 None c.in_default-2.is c.in_ok-value.ensures)

pub overflow_cast-result : goal.overflow_cast-result
overflow_cast-result c =
    let within : c.in-Some-number.place < length c.args.sig.now.sorts =
    name_within c.args.sig.now.sorts c.in-Some-at_last_colon.name.now c.in-Some-number.place
    (name_there c.args.sig.now.sorts c.in-Some-at_last_colon.name.now c.in-Some-number.place
    (sym c.number.ensures ∙ c.in-Some-number.is)) in
    omega arith

pub returns : goal.returns
returns c =
    value_is c.args.sig.now c.args.names.now c.args.pattern.now c.in-Some-at_last_colon.name.now
    c.in-Some-at_last_colon.digits.now c.in-Some-number.place c.kind_at.result
    (value_of c.in-Some-2.value) c.tokens_differ.ensures c.names_differ.ensures
    (pieces c.args.sig.now c.args.names.now c.args.pattern.now c.in-Some.number.0
    c.in-Some-named.rest.now c.in-Some-at_last_colon.name.now c.in-Some-at_last_colon.digits.now
    c.in-Some.ensures c.in-Some-named.ensures c.in-Some-at_last_colon.ensures)
    (sym c.number.ensures ∙ c.in-Some-number.is) c.kind_at.ensures
    (only_at (HasDigits c.kind_at.result c.in-Some-at_last_colon.digits.now) value_found
    c.in_ok-value.field-0 (Some c.in-Some-2.value) c.in-Some-2.is c.in_ok-value.ensures)
