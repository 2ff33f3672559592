use Rattle.std.proofs.Common.{◌≡◌, drop, map}
use Rattle.kore_text.specs.Trees.{pattern_trees}
use Rattle.kore_ast.specs.Plain.{pattern_tree}
use Rattle.kore_shapes.specs.Views.{pattern_at}
use Rattle.kore_axioms.specs.LeftNames.{have_bad_and}
use Rattle.kore_axioms.proofs.left_names.+bad.Given as goal

abbrev pub invariant-have_bad_and-loop-pat : goal.invariant-have_bad_and-loop-pat
invariant-have_bad_and-loop-pat l =
    have_bad_and (map pattern_at l.whole)
    (pattern_trees (map pattern_tree (drop l.pat-index l.pats)))
    ≡ have_bad_and (map pattern_at l.whole) (pattern_trees (map pattern_tree l.pats))
