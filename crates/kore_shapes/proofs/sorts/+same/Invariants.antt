use Rattle.std.proofs.Common.{◌≡◌, drop, map}
use Rattle.kore_text.specs.Trees.{sort_trees}
use Rattle.kore_ast.specs.Plain.{plain_sort}
use Rattle.kore_shapes.specs.SameSorts.{same_sorts}
use Rattle.kore_shapes.proofs.sorts.+same.Given as goal

abbrev pub invariant-same_sorts-loop-i : goal.invariant-same_sorts-loop-i
invariant-same_sorts-loop-i l =
    same_sorts (sort_trees (map plain_sort (drop l.i l.sorts)))
    (sort_trees (map plain_sort (drop l.i l.others)))
    ≡ same_sorts (sort_trees (map plain_sort l.sorts)) (sort_trees (map plain_sort l.others))
