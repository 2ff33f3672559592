use Rattle.std.proofs.Common.{◌≡◌, drop, map}
use Rattle.kore_text.specs.Trees.{pattern_trees}
use Rattle.kore_ast.specs.Plain.{plain_sort, pattern_tree}
use Rattle.kore_shapes.specs.EquationForms.{have_variable}
use Rattle.kore_shapes.proofs.equations.+variable.Given as goal

abbrev pub invariant-have_variable-loop-pat : goal.invariant-have_variable-loop-pat
invariant-have_variable-loop-pat l =
    have_variable l.name (plain_sort l.sort)
    (pattern_trees (map pattern_tree (drop l.pat-index l.pats)))
    ≡ have_variable l.name (plain_sort l.sort) (pattern_trees (map pattern_tree l.pats))
