use Rattle.std.proofs.Common.{◌≡◌, None, ap, sym, ◌∙◌}
use Rattle.rule_core.specs.Named.{number_of_name}
use Rattle.kore_shapes.specs.StatementViews.{plain_statement}
use Rattle.kore_equations.proofs.ClassLaws.{number_there}
use Rattle.kore_rules.proofs.last_resorts.function_number.Goals as goal

pub unreachable-requires : goal.unreachable-requires
unreachable-requires c =
    let none : number_of_name c.args.sig.now.symbols c.args.stated.now.function.now ≡ None =
    ap (number_of_name c.args.sig.now.symbols) (sym c.as_str.ensures) ∙ sym c.number.ensures
    ∙ c.in_default.is in
    number_there c.args.sig.now c.requires.0 (plain_statement c.args.stated.now) c.requires.1 none
