use Rattle.std.proofs.Common.{◌≡◌, ◌++◌, drop, map}
use Rattle.kore_text.specs.Trees.{pattern_trees}
use Rattle.kore_ast.specs.Plain.{plain_sort, pattern_tree}
use Rattle.kore_shapes.specs.LastResorts.{all_operands}
use Rattle.kore_shapes.specs.EquationViews.{patterns_at}
use Rattle.kore_shapes.proofs.last_resorts.+operands.Given as goal

abbrev pub invariant-add_all_operands-loop-pat : goal.invariant-add_all_operands-loop-pat
invariant-add_all_operands-loop-pat l =
    patterns_at l.found
    ++ all_operands (plain_sort l.sort)
    (pattern_trees (map pattern_tree (drop l.pat-index l.pats)))
    ≡ patterns_at l.fn.found
    ++ all_operands (plain_sort l.sort) (pattern_trees (map pattern_tree l.pats))
