use Rattle.std.proofs.Common.{◌≡◌, List, ◌++◌, drop, map}
use Rattle.std.specs.Prelude.{option_map}
use Rattle.kore_text.specs.Trees.{PatternTree}
use Rattle.kore_ast.specs.Plain.{plain_sort, pattern_tree}
use Rattle.kore_shapes.specs.EquationForms.{members}
use Rattle.kore_shapes.specs.EquationViews.{patterns_at}
use Rattle.kore_shapes.proofs.equations.members.Given as goal

abbrev pub invariant-loop-variable : goal.invariant-loop-variable
invariant-loop-variable l =
    option_map (λ (ps : List PatternTree). patterns_at l.patterns ++ ps)
    (members (plain_sort l.over) (map pattern_tree (drop l.variable-index l.variables))
    (pattern_tree l.rest))
    ≡ members (plain_sort l.over) (map pattern_tree l.variables) (pattern_tree l.fn.guard)
