-- The parts of trees that borrowed parts of equations of the program stand for.
use Rattle.std.specs.Prelude.{ℕ, List, map, option_map}
use Rattle.std.specs.Borrow.{Bor}
use Rattle.kore_text.specs.Trees.{PatternTree}
use Rattle.kore_ast.specs.declared.tree.Pat.{Pat}
use Rattle.kore_ast.specs.Plain.{plain_sort, pattern_tree}
use Rattle.kore_shapes.specs.declared.statements.Statement.{Statement}
use Rattle.kore_shapes.specs.Statements.{StatedEquation as StatementTree}
use Rattle.kore_shapes.specs.Views.{pattern_at}

abbrev pub plain_call : Bor (List ℕ) × Bor (List Pat) → List ℕ × List PatternTree
plain_call call = (call.0.now, map pattern_tree call.1.now)

abbrev pub plain_statement : Statement → StatementTree
plain_statement e = record {
  guard = option_map pattern_at e.guard;
  sort = plain_sort e.sort.now;
  over = plain_sort e.over.now;
  function = e.function.now;
  arguments = map pattern_tree e.arguments.now;
  value = pattern_tree e.value.now;
}
