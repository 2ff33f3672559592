use Rattle.std.proofs.Common.{◌<◌, ◌∙◌, sym, arith, length}
use Rattle.kore_ast.specs.Plain.{plain_sort}
use Rattle.kore_check.proofs.SortLaws.{sort_number-within}
use Rattle.kore_rules.proofs.acceptance.sort_of_rules.Goals as goal

pub overflow_cast-result : goal.overflow_cast-result
overflow_cast-result c =
    let within =
    sort_number-within c.args.sig.now.sorts (plain_sort c.in_ok-first.field-0.now)
    c.in_ok-number.number (sym c.sort_number.ensures ∙ c.in_ok-number.was) in
    let few = c.requires.numbered.0 in omega (arith, within, few)
