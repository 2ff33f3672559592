-- The test for what is next to a side of a rule.
use Rattle.std.specs.Prelude.{Bool}
use Rattle.kore_text.specs.Trees.{PatternTree}
use Rattle.kore_shapes.specs.declared.shapes.Companion.{Companion}
use Rattle.kore_shapes.specs.declared.shapes.Companion.TheVariants as companion
use Rattle.kore_shapes.specs.Shapes.{heads_condition, is_top}

abbrev pub passes : Companion → PatternTree → Bool
passes companion.Condition = heads_condition
passes companion.Top = is_top
