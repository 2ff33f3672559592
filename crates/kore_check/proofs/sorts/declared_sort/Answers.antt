use Rattle.std.proofs.Common.{rules, ◌≡◌, ◌<◌, length, Some, sym, arith}
use Rattle.kore_ast.specs.Plain.{plain_sort}
use Rattle.kore_sig.specs.SortReferences.{sort_number}
use Rattle.kore_check.proofs.SortLaws.{sort_number-within}
use Rattle.kore_check.proofs.sorts.declared_sort.Goals as goal

pub overflow_cast-result : goal.overflow_cast-result
overflow_cast-result c =
    let found : Some c.in_ok-number.number ≡ sort_number c.args.sig.now.sorts
    (plain_sort c.args.sort.now) =
    search rules in
    let within : c.in_ok-number.number < length c.args.sig.now.sorts =
    sort_number-within c.args.sig.now.sorts (plain_sort c.args.sort.now) c.in_ok-number.number
    (sym found) in
    omega (arith, within, c.requires.0)
