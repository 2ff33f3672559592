use Rattle.std.proofs.Common.{map, arith, sym}
use Rattle.std.proofs.lemmas.List.{length-map}
use Rattle.kore_ast.specs.Plain.{plain_sort}
use Rattle.kore_shapes.proofs.SortLaws.{other_lengths}
use Rattle.kore_shapes.proofs.sorts.+same.Goals as goal

pub same_sorts-returns-then-sorts-others : goal.same_sorts-returns-then-sorts-others
same_sorts-returns-then-sorts-others t c =
    sym (other_lengths (map plain_sort c.args.sorts.now) (map plain_sort c.args.others.now)
    (λ e. omega (
      arith,
      e,
      c.if-sorts-others.true,
      length-map c.args.sorts.now plain_sort,
      length-map c.args.others.now plain_sort,
    )))
