use Rattle.std.proofs.Common.{◌≡◌, take, map}
use Rattle.kore_ast.specs.Plain.{pattern_tree}
use Rattle.kore_shapes.specs.EquationViews.{patterns_at}
use Rattle.kore_shapes.proofs.equations.borrowed.Given as goal

abbrev pub invariant-loop-pat : goal.invariant-loop-pat
invariant-loop-pat l = patterns_at l.all ≡ map pattern_tree (take l.pat-index l.pats)
