use Rattle.std.specs.Prelude.{codes}
use Rattle.true_facts.proofs.TokenLaws.{no_prefix, by_name, constant_only, number_behind}
use Rattle.true_facts.proofs.tokens.symbol_of.Goals as goal

pub returns-in_default : goal.returns-in_default
returns-in_default c =
    constant_only (number_behind c.args.names.now (codes "f:") c.args.sig.now.symbols)
    c.args.number.0 _
    (no_prefix c.args.names.now c.args.number.0 (codes "f:") c.args.sig.now.symbols
    c.in_default.ensures)

pub returns : goal.returns
returns c =
    constant_only (number_behind c.args.names.now (codes "f:") c.args.sig.now.symbols)
    c.args.number.0 c.number.result
    (by_name c.args.names.now c.args.number.0 (codes "f:") c.in-Some.name.now
    c.args.sig.now.symbols c.number.result c.tokens_differ.ensures c.names_differ.ensures
    c.in-Some.ensures c.number.ensures)
