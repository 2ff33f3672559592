use Rattle.std.proofs.Common.{rules, ◌≡◌, Some, refl, map}
use Rattle.rule_core.specs.Named.{number_of_name}
use Rattle.kore_ast.specs.Plain.{plain_sort}
use Rattle.kore_check.specs.PatternSorts.{symbol_info, sort_numbers}
use Rattle.term_core.specs.RulePatterns.{sort_numbers as numbers_of}
use Rattle.kore_check.proofs.build.head_of.Goals as goal

pub returns : goal.returns
returns c =
    let number : number_of_name c.args.sig.now.symbols c.args.name.now ≡ Some c.in-Some.number =
    search rules in
    let info : symbol_info c.args.sig.now c.in-Some.number ≡ Some c.in-Some-value.symbol.now =
    search rules in
    let sorts : sort_numbers c.args.sig.now (map plain_sort c.args.sorts.now) ≡ Some
    (numbers_of c.in-Some-2.sorts.items) =
    search rules in
    (c.in-Some-value.symbol.now, (number, info), refl, sorts)
