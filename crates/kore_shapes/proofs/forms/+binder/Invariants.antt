use Rattle.std.proofs.Common.{◌≡◌, drop, map}
use Rattle.kore_text.specs.Trees.{pattern_trees}
use Rattle.kore_ast.specs.Plain.{pattern_tree}
use Rattle.kore_shapes.specs.Forms.{have_binder}
use Rattle.kore_shapes.proofs.forms.+binder.Given as goal

abbrev pub invariant-have_binder-loop-pat : goal.invariant-have_binder-loop-pat
invariant-have_binder-loop-pat l =
    have_binder (pattern_trees (map pattern_tree (drop l.pat-index l.pats)))
    ≡ have_binder (pattern_trees (map pattern_tree l.pats))
