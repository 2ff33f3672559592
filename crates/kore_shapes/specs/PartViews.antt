-- The parts of an equation that borrowed parts of the program stand for.
use Rattle.std.specs.Prelude.{map, option_map}
use Rattle.kore_ast.specs.Plain.{pattern_tree}
use Rattle.kore_shapes.specs.declared.equations.EquationParts.{EquationParts}
use Rattle.kore_shapes.specs.EquationForms.{EquationParts as PartsOfTree}
use Rattle.kore_shapes.specs.Views.{pattern_at}
use Rattle.kore_shapes.specs.EquationViews.{patterns_at}

abbrev pub plain_parts : EquationParts → PartsOfTree
plain_parts q = record {
  parameters = map pattern_tree q.parameters.now;
  patterns = patterns_at q.patterns;
  condition = option_map pattern_at q.condition;
  right = pattern_tree q.right.now;
}
