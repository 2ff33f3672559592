use Rattle.std.proofs.Common.{◌≡◌, drop, map}
use Rattle.kore_text.specs.Trees.{pattern_trees}
use Rattle.kore_ast.specs.Plain.{plain_sort, pattern_tree}
use Rattle.kore_check.specs.Folds.{all_unfolded}
use Rattle.kore_check.specs.PatternFaults.{argument_faults}
use Rattle.kore_check.specs.FoldFaults.{folded_faults, rest_faults}
use Rattle.kore_check.specs.Notes.{after}
use Rattle.kore_check.proofs.check.+check.Given as goal

abbrev pub invariant-check_arguments-loop-i : goal.invariant-check_arguments-loop-i
invariant-check_arguments-loop-i l =
    after l.first (argument_faults l.sig (map plain_sort l.sorts) (drop l.i l.places)
    (all_unfolded (pattern_trees (map pattern_tree (drop l.i l.args)))))
    ≡ after l.fn.first (argument_faults l.sig (map plain_sort l.sorts) l.places
    (all_unfolded (pattern_trees (map pattern_tree l.args))))

abbrev pub invariant-check_folded-loop-i : goal.invariant-check_folded-loop-i
invariant-check_folded-loop-i l =
    after l.first (rest_faults l.sig l.left l.sorts
    (all_unfolded (pattern_trees (map pattern_tree (drop l.i l.args)))))
    ≡ after l.fn.first (folded_faults l.sig l.left l.sorts
    (all_unfolded (pattern_trees (map pattern_tree l.args))))
