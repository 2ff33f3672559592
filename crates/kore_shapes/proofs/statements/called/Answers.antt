use Rattle.std.proofs.Common.{◌≡◌, map, List, sym, ap, ◌∙◌}
use Rattle.kore_text.specs.Trees.{SortTree, PatternTree, pattern_trees, listed_patterns}
use Rattle.kore_ast.specs.Plain.{plain_sort, pattern_tree}
use Rattle.kore_ast.specs.declared.tree.Pat.{Pat}
use Rattle.kore_ast.specs.declared.tree.Sort.{Sort}
use Rattle.kore_shapes.specs.Statements.{symbol_called as the_called, stated_call as the_call_of}
use Rattle.kore_shapes.proofs.TreeLists.{listed_sort_trees, listed_pattern_trees}
use Rattle.kore_shapes.proofs.PatternForms.{application_is}
use Rattle.kore_shapes.proofs.statements.called.Goals as goal

pub returns-in-App : goal.returns-in-App
returns-in-App c =
    let ss = map plain_sort c.in-App.sorts.items in
    let ps = map pattern_tree c.in-App.args.items in
    let own : the_called (pattern_tree c.args.pat.now) ≡ the_call_of c.in-App.name ss ps =
    ap the_called
    (application_is c.args.pat.now c.in-App.name c.in-App.sorts c.in-App.args c.in-App.is)
    ∙ ap (λ (xs : List SortTree). the_call_of c.in-App.name xs (listed_patterns (pattern_trees ps)))
    (listed_sort_trees ss)
    ∙ ap (λ (xs : List PatternTree). the_call_of c.in-App.name ss xs) (listed_pattern_trees ps) in
    c.call_of.ensures
    ∙ ap (λ (xs : List Sort). the_call_of c.in-App.name (map plain_sort xs)
    (map pattern_tree c.deref-in-App.result.now)) c.deref.ensures.value
    ∙ ap (λ (xs : List Pat). the_call_of c.in-App.name ss (map pattern_tree xs))
    c.deref-in-App.ensures.value
    ∙ sym own
