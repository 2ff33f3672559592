use Rattle.std.proofs.Common.{sym, ◌∙◌, arith}
use Rattle.kore_ast.specs.Plain.{plain_sort}
use Rattle.kore_sig.proofs.PairLaws.{number_of_sort}
use Rattle.kore_axioms.proofs.sides.sort_id.Goals as goal

pub overflow_cast-result : goal.overflow_cast-result
overflow_cast-result c =
    let within =
    number_of_sort c.args.sig.now.sorts (plain_sort c.args.sort.now) c.in_ok-number.number
    (sym c.sort_number.ensures ∙ c.in_ok-number.was) in
    omega (arith, within, c.requires.0)
