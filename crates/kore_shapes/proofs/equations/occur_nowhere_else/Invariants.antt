use Rattle.std.proofs.Common.{◌≡◌, ◌∷◌, length, map}
use Rattle.kore_ast.specs.Plain.{pattern_tree}
use Rattle.kore_shapes.specs.EquationForms.{occur_nowhere_else}
use Rattle.kore_shapes.specs.Views.{pattern_at}
use Rattle.kore_shapes.proofs.equations.occur_nowhere_else.Given as goal

abbrev pub invariant-loop-rest : goal.invariant-loop-rest
invariant-loop-rest l =
    occur_nowhere_else (map pattern_tree l.rest)
    (pattern_tree l.condition ∷ (pattern_tree l.value ∷ map pattern_at l.patterns))
    ≡ occur_nowhere_else (map pattern_tree l.variables)
    (pattern_tree l.condition ∷ (pattern_tree l.value ∷ map pattern_at l.patterns))

abbrev pub decreases-loop-rest : goal.decreases-loop-rest
decreases-loop-rest l = length l.rest
