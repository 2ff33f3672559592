use Rattle.std.proofs.Common.{rules, ◌≡◌, ◌<◌, length, Some, sym, arith}
use Rattle.kore_ast.specs.Plain.{plain_sort}
use Rattle.kore_sig.specs.SortReferences.{sort_number}
use Rattle.kore_check.proofs.SortLaws.{sort_number-within}
use Rattle.kore_equations.proofs.guards.number_of.Goals as goal

pub overflow_cast-sort : goal.overflow_cast-sort
overflow_cast-sort c =
    let found : Some c.in_ok-sort.sort ≡ sort_number c.args.sig.now.sorts
    (plain_sort c.in_ok-variable.variable.sort.now) =
    search rules in
    let within : c.in_ok-sort.sort < length c.args.sig.now.sorts =
    sort_number-within c.args.sig.now.sorts (plain_sort c.in_ok-variable.variable.sort.now)
    c.in_ok-sort.sort (sym found) in
    omega (arith, within, c.requires.0)
