use Rattle.std.proofs.Common.{◌≡◌, ◌<◌, Some, length, sym, ◌∙◌, arith}
use Rattle.std.specs.Prelude.{codes}
use Rattle.ml_image.specs.Tokens.{name_at}
use Rattle.true_facts.proofs.TokenLaws.{no_prefix, no_name, is_name, name_there, name_within}
use Rattle.true_facts.proofs.tokens.sort_of.Goals as goal

pub returns-in_default : goal.returns-in_default
returns-in_default c =
    no_prefix c.args.names.now c.args.number.0 (codes "s:") c.args.sig.now.sorts
    c.in_default.ensures

pub returns-in_default-number : goal.returns-in_default-number
returns-in_default-number c =
    no_name c.args.names.now c.args.number.0 (codes "s:") c.in-Some.name.now c.args.sig.now.sorts
    c.names_differ.ensures c.in-Some.ensures (sym c.number.ensures ∙ c.in_default-number.is)

pub overflow_cast-result : goal.overflow_cast-result
overflow_cast-result c =
    let named : name_at c.args.sig.now.sorts c.in-Some-number.place ≡ Some c.in-Some.name.now =
    name_there c.args.sig.now.sorts c.in-Some.name.now c.in-Some-number.place
    (sym c.number.ensures ∙ c.in-Some-number.is) in
    let within : c.in-Some-number.place < length c.args.sig.now.sorts =
    name_within c.args.sig.now.sorts c.in-Some.name.now c.in-Some-number.place named in
    omega arith

pub returns : goal.returns
returns c =
    is_name c.args.names.now c.args.number.0 (codes "s:") c.in-Some.name.now c.args.sig.now.sorts
    c.in-Some-number.place c.tokens_differ.ensures c.names_differ.ensures c.in-Some.ensures
    (sym c.number.ensures ∙ c.in-Some-number.is)
