-- The parts of trees that borrowed parts of the program stand for.
use Rattle.std.specs.Borrow.{Bor}
use Rattle.kore_text.specs.Trees.{PatternTree}
use Rattle.kore_ast.specs.declared.tree.Pat.{Pat}
use Rattle.kore_ast.specs.Plain.{plain_sort, pattern_tree}
use Rattle.kore_shapes.specs.declared.shapes.Rewriting.{Rewriting}
use Rattle.kore_shapes.specs.declared.shapes.Side.{Side}
use Rattle.kore_shapes.specs.declared.shapes.Side.TheVariants as side
use Rattle.kore_shapes.specs.declared.shapes.Condition.{Condition}
use Rattle.kore_shapes.specs.declared.shapes.Condition.TheVariants as condition
use Rattle.kore_shapes.specs.Shapes.{Rewriting as RewritingTree, Side as SideTree, alone, beside}
use Rattle.kore_shapes.specs.Shapes.{without, misshapen, Condition as ConditionTree, always, tests}
use Rattle.kore_shapes.specs.Shapes.{ill}

abbrev pub pattern_at : Bor Pat → PatternTree
pattern_at p = pattern_tree p.now

abbrev pub plain_rewriting : Rewriting → RewritingTree
plain_rewriting w = record {
  sort = plain_sort w.sort.now;
  before = pattern_tree w.before.now;
  after
      = pattern_tree w.after.now;
}

abbrev pub plain_side : Side → SideTree
plain_side (side.Alone p) = alone (pattern_tree p.now)
plain_side (side.Beside p q) = beside (pattern_tree p.now) (pattern_tree q.now)
plain_side side.NoCompanion = without
plain_side side.Misshapen = misshapen

abbrev pub plain_condition : Condition → ConditionTree
plain_condition condition.Always = always
plain_condition (condition.Tests s p) = tests (plain_sort s.now) (pattern_tree p.now)
plain_condition condition.Malformed = ill
