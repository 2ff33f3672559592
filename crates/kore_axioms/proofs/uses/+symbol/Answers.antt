use Rattle.std.proofs.Common.{◌≡◌, Bool, ◌||◌, ◌&&◌, List, map, ap, sym, ◌∙◌}
use Rattle.kore_text.specs.Trees.{PatternTree, pattern_trees}
use Rattle.kore_ast.specs.declared.tree.Pat.{Pat}
use Rattle.kore_ast.specs.declared.tree.PatForm.{PatForm}
use Rattle.kore_ast.specs.Plain.{pattern_tree}
use Rattle.kore_ast.proofs.PlainLaws.{plain-pattern-Fold}
use Rattle.kore_check.specs.Folds.{unfolded, inner_fold, all_unfolded}
use Rattle.kore_axioms.specs.Uses.{has_symbol, have_symbol}
use Rattle.kore_axioms.specs.UsedSymbols.{is_used}
use Rattle.kore_axioms.specs.FoldUses.{are_two}
use Rattle.kore_axioms.proofs.FoldUseLaws.{has_symbol-standing, folded_uses, pair_has}
use Rattle.kore_axioms.proofs.uses.+symbol.Goals as goal

pub has_symbol-returns-in-Fold : goal.has_symbol-returns-in-Fold
has_symbol-returns-in-Fold t c =
    let test = is_used c.args.which c.args.sig.now in
    c.fold_has_symbol.ensures c.in-Fold.field-0
    ∙ ap (λ (p : Pat). has_symbol test (inner_fold c.in-Fold.field-0 (pattern_tree p)))
    c.deref-in-Fold.ensures
    ∙ sym (has_symbol-standing test c.args.pat.now.at
    (inner_fold c.in-Fold.field-0 (pattern_tree c.in-Fold.inner.value)))
    ∙ sym (ap (λ (q : PatternTree). has_symbol test (unfolded q))
    (ap (λ (f : PatForm). pattern_tree (record { at = c.args.pat.now.at; form = f })) c.in-Fold.is
    ∙ plain-pattern-Fold c.args.pat.now.at c.in-Fold.field-0 c.in-Fold.inner))

pub fold_has_symbol-returns-then-is_among_folded : goal.fold_has_symbol-returns-then-is_among_folded
fold_has_symbol-returns-then-is_among_folded t c = λ (left : Bool).
    let test = is_used c.args.which c.args.sig.now in
    let rest : Bool =
    have_symbol test (all_unfolded (pattern_trees (map pattern_tree c.in-App.args.items))) in
    let head : c.is_among_folded.result ≡
    (are_two (map pattern_tree c.in-App.args.items) && test c.in-App.name) =
    c.is_among_folded.ensures
    ∙ ap (λ (ps : List Pat). are_two (map pattern_tree ps) && test c.in-App.name)
    c.deref.ensures.value in
    c.if-is_among_folded.true
    ∙ ap (λ (b : Bool). b || rest) (sym c.if-is_among_folded.true ∙ head)
    ∙
    sym (folded_uses test left c.args.pat.now c.in-App.name c.in-App.field-1 c.in-App.args
    c.in-App.is)

pub fold_has_symbol-returns-else-is_among_folded : goal.fold_has_symbol-returns-else-is_among_folded
fold_has_symbol-returns-else-is_among_folded t c = λ (left : Bool).
    let test = is_used c.args.which c.args.sig.now in
    let rest : Bool =
    have_symbol test (all_unfolded (pattern_trees (map pattern_tree c.in-App.args.items))) in
    let head : c.is_among_folded.result ≡
    (are_two (map pattern_tree c.in-App.args.items) && test c.in-App.name) =
    c.is_among_folded.ensures
    ∙ ap (λ (ps : List Pat). are_two (map pattern_tree ps) && test c.in-App.name)
    c.deref.ensures.value in
    c.have_symbol.ensures
    ∙ ap (λ (ps : List Pat). have_symbol test (all_unfolded (pattern_trees (map pattern_tree ps))))
    c.deref-else-is_among_folded.ensures.value
    ∙ ap (λ (b : Bool). b || rest) (sym c.if-is_among_folded.false ∙ head)
    ∙
    sym (folded_uses test left c.args.pat.now c.in-App.name c.in-App.field-1 c.in-App.args
    c.in-App.is)

pub has_symbol-returns-then-is_pair : goal.has_symbol-returns-then-is_pair
has_symbol-returns-then-is_pair t c =
    c.have_symbol-then-is_pair.ensures
    ∙ pair_has (is_used c.args.which c.args.sig.now) c.args.pat.now c.in-Built.op c.in-Built.sorts
    c.in-Built.args c.deref-in-Built.result.now c.deref-in-Built-2.result.now
    c.deref-then-is_pair.result.now c.in-Built.is c.deref-in-Built.ensures.value
    c.deref-in-Built-2.ensures.value c.deref-then-is_pair.ensures.value
    (sym c.is_pair.ensures ∙ c.if-is_pair.true)
