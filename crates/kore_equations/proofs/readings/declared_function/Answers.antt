use Rattle.std.proofs.Common.{◌≡◌, ◌<◌, length, Some, None, ap, sym, ◌∙◌, arith}
use Rattle.std.specs.Prelude.{option_copied}
use Rattle.rule_core.specs.Named.{number_of_name}
use Rattle.kore_check.proofs.SortLaws.{number-within}
use Rattle.kore_shapes.specs.StatementViews.{plain_statement}
use Rattle.kore_equations.proofs.ClassLaws.{number_there, declaration_there}
use Rattle.kore_equations.proofs.readings.declared_function.Goals as goal

pub unreachable-requires : goal.unreachable-requires
unreachable-requires c =
    let none : number_of_name c.args.sig.now.symbols c.args.stated.now.function.now ≡ None =
    ap (number_of_name c.args.sig.now.symbols) (sym c.as_str.ensures) ∙ sym c.number.ensures
    ∙ c.in_default.is in
    number_there c.args.sig.now c.requires.class.0 (plain_statement c.args.stated.now)
    c.requires.class.1 none

pub unreachable-requires-in_default-value : goal.unreachable-requires-in_default-value
unreachable-requires-in_default-value c =
    let is : number_of_name c.args.sig.now.symbols c.args.stated.now.function.now ≡ Some
    c.in-Some.number =
    ap (number_of_name c.args.sig.now.symbols) (sym c.as_str.ensures) ∙ sym c.number.ensures
    ∙ c.in-Some.is in
    declaration_there c.args.sig.now c.requires.class.0 (plain_statement c.args.stated.now)
    c.in-Some.number c.requires.class.1 is
    (sym c.value.ensures ∙ ap option_copied c.in_default-value.is)

pub overflow_cast-result : goal.overflow_cast-result
overflow_cast-result c =
    let within : c.in-Some.number < length c.args.sig.now.symbols =
    number-within c.args.sig.now.symbols c.as_str.result.now c.in-Some.number
    (sym c.number.ensures ∙ c.in-Some.is) in
    omega (arith, within, c.requires.numbered.1)
