use Rattle.std.proofs.Common.{◌≡◌, drop, map}
use Rattle.kore_text.specs.Trees.{pattern_trees}
use Rattle.kore_ast.specs.Plain.{pattern_tree}
use Rattle.kore_shapes.specs.Forms.{have_form}
use Rattle.kore_shapes.specs.SoughtForms.{sought}
use Rattle.kore_shapes.proofs.forms.+forms.Given as goal

abbrev pub invariant-have_form-loop-pat : goal.invariant-have_form-loop-pat
invariant-have_form-loop-pat l =
    have_form (sought l.sought) (pattern_trees (map pattern_tree (drop l.pat-index l.pats)))
    ≡ have_form (sought l.sought) (pattern_trees (map pattern_tree l.pats))
