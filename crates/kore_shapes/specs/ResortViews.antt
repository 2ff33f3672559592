-- The parts of an equation of the last resort that borrowed parts of the program stand for.
use Rattle.std.specs.Prelude.{map}
use Rattle.kore_ast.specs.Plain.{pattern_tree}
use Rattle.kore_shapes.specs.declared.last_resorts.GuardParts.{GuardParts}
use Rattle.kore_shapes.specs.declared.last_resorts.LastResortParts.{LastResortParts}
use Rattle.kore_shapes.specs.LastResorts.{GuardParts as GuardOfTree}
use Rattle.kore_shapes.specs.LastResorts.{LastResortParts as ResortOfTree}
use Rattle.kore_shapes.specs.EquationViews.{patterns_at}
use Rattle.kore_shapes.specs.PartViews.{plain_parts}

abbrev pub plain_guard : GuardParts → GuardOfTree
plain_guard g = record {
  variables = patterns_at g.variables;
  condition = pattern_tree g.condition.now;
  patterns = patterns_at g.patterns;
}

abbrev pub plain_resort : LastResortParts → ResortOfTree
plain_resort q = record {
  equation = plain_parts q.equation;
  guards = map plain_guard q.guards.items;
}
