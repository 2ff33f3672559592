use Rattle.std.proofs.Common.{◌≡◌, Bool, false, not, ◌&&◌, ◌||◌, List, map, ap, sym, ◌∙◌, rules}
use Rattle.kore_text.specs.Trees.{PatternTree, pattern_trees}
use Rattle.kore_ast.specs.Plain.{pattern_tree}
use Rattle.kore_shapes.specs.Forms.{have_form, fold_has_form, is_one, covers}
use Rattle.kore_shapes.specs.SoughtForms.{sought}
use Rattle.kore_shapes.proofs.PatternForms.{connective_is}
use Rattle.kore_shapes.proofs.TreeLists.{listed_pattern_trees}
use Rattle.kore_shapes.proofs.forms.+forms.Goals as goal

pub fold_has_form-returns-else-is_head : goal.fold_has_form-returns-else-is_head
fold_has_form-returns-else-is_head t c =
    let head : (not (is_one (map pattern_tree c.in-Built.args.items))
    && covers (sought c.args.sought) c.in-Built.op)
    ≡ false = search rules in
    let inner : c.have_form-else-is_head.result
    ≡ have_form (sought c.args.sought) (pattern_trees (map pattern_tree c.in-Built.args.items)) =
    search rules in
    inner
    ∙ sym (ap (fold_has_form (sought c.args.sought))
    (connective_is c.args.pat.now c.in-Built.op c.in-Built.field-1 c.in-Built.args c.in-Built.is)
    ∙ ap (λ (ps : List PatternTree). (not (is_one ps)
    && covers (sought c.args.sought) c.in-Built.op)
    || have_form (sought c.args.sought) (pattern_trees (map pattern_tree c.in-Built.args.items)))
    (listed_pattern_trees (map pattern_tree c.in-Built.args.items))
    ∙ ap (λ (b : Bool). b
    || have_form (sought c.args.sought) (pattern_trees (map pattern_tree c.in-Built.args.items)))
    head)
