-- The list of patterns that are borrowed one by one.
use Rattle.std.specs.Prelude.{List, map}
use Rattle.std.specs.Borrow.{Bor}
use Rattle.std.specs.Global.{Vec}
use Rattle.kore_text.specs.Trees.{PatternTree}
use Rattle.kore_ast.specs.declared.tree.Pat.{Pat}
use Rattle.kore_ast.specs.Plain.{pattern_tree}
use Rattle.kore_shapes.specs.Views.{pattern_at}

abbrev pub plain_pair : Bor Pat × Bor Pat → PatternTree × PatternTree
plain_pair both = (pattern_tree both.0.now, pattern_tree both.1.now)

abbrev pub patterns_at : Vec (Bor Pat) → List PatternTree
patterns_at ps = map pattern_at ps.items
