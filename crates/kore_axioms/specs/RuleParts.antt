-- The parts of a rewrite rule `\rewrites{S}(A,B)`.
use Rattle.std.specs.Prelude.{Option}
use Rattle.kore_text.specs.Trees.{PatternTree}
use Rattle.rule_core.specs.declared.signature.Signature.{Signature}
use Rattle.kore_shapes.specs.Shapes.{Rewriting, Side, side, found_part, main_part, heads_condition}
use Rattle.kore_shapes.specs.Shapes.{is_top, Condition, given_condition}
use Rattle.kore_axioms.specs.Conditions.{over_bool}

-- both sides, and the condition next to the left one
pub record RuleParts : Type 0 where
  pub before : Side
  pub after : Side
  pub condition : Condition

abbrev pub rule_parts : Signature → Rewriting → RuleParts
rule_parts sig w = record {
  before = side heads_condition w.sort w.before;
  after = side is_top w.sort w.after;
  condition =
      over_bool sig (given_condition w.sort (found_part (side heads_condition w.sort w.before)));
}

-- the left and the right side without what is next to them, if they have the form of a side
abbrev pub left_of : RuleParts → Option PatternTree
left_of w = main_part w.before

abbrev pub right_of : RuleParts → Option PatternTree
right_of w = main_part w.after
