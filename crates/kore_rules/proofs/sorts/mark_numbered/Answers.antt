use Rattle.std.proofs.Common.{arith, sym, ◌∙◌}
use Rattle.kore_ast.specs.Plain.{plain_sort}
use Rattle.kore_check.proofs.SortLaws.{sort_number-within}
use Rattle.kore_rules.proofs.sorts.mark_numbered.Goals as goal

pub mark-requires : goal.mark-requires
mark-requires c =
    let within =
    sort_number-within c.args.sorts.now (plain_sort c.in-Some.sort.now)
    c.in-Some-sort_number.number (sym c.sort_number.ensures ∙ c.in-Some-sort_number.is) in
    let same = c.requires in omega (arith, within, same)
