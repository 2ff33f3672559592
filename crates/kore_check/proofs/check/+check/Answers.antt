use Rattle.std.proofs.Common.{List, length, map, sym, ◌∙◌, ap, refl, arith}
use Rattle.std.specs.Prelude.{option_map, option_copied, ◌==◌, ◌+◌}
use Rattle.kore_check.specs.declared.check.FoldSorts.{FoldSorts}
use Rattle.kore_ast.specs.Plain.{plain_sort, pattern_tree}
use Rattle.kore_ast.specs.declared.tree.Pat.{Pat}
use Rattle.kore_check.specs.Folds.{only_of, unfolded}
use Rattle.kore_check.specs.PatternFaults.{pattern_faults}
use Rattle.kore_check.specs.PatternSorts.{sort_of_pattern}
use Rattle.kore_check.specs.Notes.{sort_no, after}
use Rattle.kore_check.proofs.FoldChecks.{application_folded, fold_short, only_other, fold_known}
use Rattle.kore_check.proofs.FoldChecks.{fold_sorted, fold_checked, fold_begun, fold_goes_on}
use Rattle.kore_check.proofs.FoldChecks.{fold_ends}
use Rattle.kore_check.proofs.Applications.{reads, application_sorted, application_checked}
use Rattle.kore_check.proofs.Applications.{argument_checked}
use Rattle.kore_check.proofs.Places.{byte_of_next-unfolded}
use Rattle.kore_check.proofs.Connectives.{connective_read, only_read, others_read, pair_is}
use Rattle.kore_check.proofs.CheckLaws.{pair_checked}
use Rattle.kore_check.proofs.check.+check.Goals as goal

pub check-returns-in-App-clause-sort : goal.check-returns-in-App-clause-sort
check-returns-in-App-clause-sort t c =
    application_sorted c.args.sig.now c.args.pat.now c.in-App.name c.in-App.sorts c.in-App.args
    (option_copied c.symbol-symbol.result) c.deref.result.now _ c.in-App.is
    c.symbol-symbol.ensures c.deref.ensures.value c.check_head-own.ensures.sort

pub check-returns-in-App-clause-first : goal.check-returns-in-App-clause-first
check-returns-in-App-clause-first t c =
    application_checked c.args.sig.now c.args.pat.now c.in-App.name c.in-App.sorts c.in-App.args
    (option_copied c.symbol-symbol.result) c.deref.result.now c.deref-in-App-2.result.now
    c.places.result.now c.deref-in-App.result.now c.len.result
    c.args.first.now c.check_head-own.new.first c.check_arguments.new.first c.in-App.is
    c.symbol-symbol.ensures c.deref.ensures.value c.deref-in-App-2.ensures.value c.places.ensures
    c.deref-in-App.ensures.value (omega (arith, c.len.ensures)) c.check_head-own.ensures.first
    c.check_arguments.ensures

pub check_arguments-loop-i-preserved : goal.check_arguments-loop-i-preserved
check_arguments-loop-i-preserved t c =
    argument_checked c.args.sig.now (map plain_sort c.args.sorts.now) c.args.places.now
    c.args.args.now c.loop-i.i c.index-args-i.result (option_map sort_no c.check-own.result)
    (option_map sort_no c.wanted_at.result)
    c.loop-i.first c.check-own.new.first c.check_clash.new.first _ c.loop-i-test.true
    c.index-args-i.is (byte_of_next-unfolded c.index-args-i.result) c.check-own.ensures.sort
    c.wanted_at.ensures c.check-own.ensures.first c.check_clash.ensures c.loop-i.invariant

pub check_only-returns-then-args-ne1-clause-sort : goal.check_only-returns-then-args-ne1-clause-sort
check_only-returns-then-args-ne1-clause-sort t c =
    λ at. sym (ap (sort_of_pattern c.args.sig.now) (only_other at c.args.args.now
    c.if-args-ne1.true))

pub check_only-returns-then-args-ne1-clause-first :
    goal.check_only-returns-then-args-ne1-clause-first
check_only-returns-then-args-ne1-clause-first t c = λ at.
    sym (ap (λ u. after c.args.first.now
    (pattern_faults c.args.sig.now u)) (only_other at c.args.args.now c.if-args-ne1.true))

pub check_folded-loop-i-init : goal.check_folded-loop-i-init
check_folded-loop-i-init t c =
    fold_begun c.args.sig.now c.args.left c.args.sorts c.args.args.now c.index-args-0.result
    (option_map sort_no c.check-own.result)
    c.args.first.now c.check-own.new.first c.check_clash.new.first c.requires.some c.index-args-0.is
    (byte_of_next-unfolded c.index-args-0.result) c.check-own.ensures.sort
    c.check-own.ensures.first c.check_clash.ensures

pub check_folded-loop-i-preserved : goal.check_folded-loop-i-preserved
check_folded-loop-i-preserved t c =
    fold_goes_on c.args.sig.now c.args.left (c.loop-i.i + 1 == length c.args.args.now) c.args.sorts
    c.args.args.now c.loop-i.i c.index-args-i.result
    (option_map sort_no c.check-own-in-loop-i.result)
    c.loop-i.first c.check-own-in-loop-i.new.first c.check_next.new.first _ c.loop-i-test.true
    c.index-args-i.is (byte_of_next-unfolded c.index-args-i.result)
    c.check-own-in-loop-i.ensures.sort refl c.check-own-in-loop-i.ensures.first
    c.check_next.ensures c.loop-i.invariant

pub check_folded-returns : goal.check_folded-returns
check_folded-returns t c =
    fold_ends c.args.sig.now c.args.left c.args.sorts c.args.args.now c.loop-i.i c.loop-i.first _
    c.loop-i-test.false c.loop-i.invariant

pub check_fold-returns-then-len-lt2-clause-sort : goal.check_fold-returns-then-len-lt2-clause-sort
check_fold-returns-then-len-lt2-clause-sort t c =
    c.check_only.ensures.sort c.args.inner.now.at
    ∙ ap (λ (ps : List Pat). sort_of_pattern c.args.sig.now
    (only_of c.args.inner.now.at (reads ps)))
    c.deref.ensures.value
    ∙ ap (sort_of_pattern c.args.sig.now) (fold_short c.args.left c.args.inner.now.at c.in-App.name
    (map plain_sort c.in-App.sorts.items) c.in-App.args.items
    (omega (arith, c.len.ensures, c.if-len-lt2.true))
    ∙
    sym (application_folded c.args.left c.args.inner.now c.in-App.name c.in-App.sorts
    c.in-App.args c.in-App.is))

pub check_fold-returns-then-len-lt2-clause-first : goal.check_fold-returns-then-len-lt2-clause-first
check_fold-returns-then-len-lt2-clause-first t c =
    c.check_only.ensures.first c.args.inner.now.at
    ∙ ap (λ (ps : List Pat). after c.args.first.now
    (pattern_faults c.args.sig.now (only_of c.args.inner.now.at (reads ps))))
    c.deref.ensures.value
    ∙ ap (λ u. after c.args.first.now (pattern_faults c.args.sig.now u))
    (fold_short c.args.left c.args.inner.now.at c.in-App.name
    (map plain_sort c.in-App.sorts.items) c.in-App.args.items
    (omega (arith, c.len.ensures, c.if-len-lt2.true))
    ∙
    sym (application_folded c.args.left c.args.inner.now c.in-App.name c.in-App.sorts
    c.in-App.args c.in-App.is))

pub check_fold-returns-else-len-lt2-clause-sort : goal.check_fold-returns-else-len-lt2-clause-sort
check_fold-returns-else-len-lt2-clause-sort t c =
    fold_sorted c.args.sig.now c.args.left c.args.inner.now c.in-App.name c.in-App.sorts
    c.in-App.args (option_copied c.symbol-symbol.result) c.deref-in-App.result.now _ c.in-App.is
    (omega (arith, c.len.ensures, c.if-len-lt2.false)) c.symbol-symbol.ensures
    c.deref-in-App.ensures.value c.check_head-own.ensures.sort

pub check_fold-returns-else-len-lt2-clause-first : goal.check_fold-returns-else-len-lt2-clause-first
check_fold-returns-else-len-lt2-clause-first t c =
    let s : FoldSorts =
    record {
      at = c.args.inner.now.at;
      own = c.check_head-own.result;
      lower = c.wanted_at-lower.result;
      upper = c.wanted_at-upper.result;
    } in
    fold_checked c.args.sig.now c.args.left c.args.inner.now c.in-App.name c.in-App.sorts
    c.in-App.args (option_copied c.symbol-symbol.result) c.deref-in-App.result.now s
    c.deref-in-App-4.result.now
    c.args.first.now c.check_head-own.new.first c.check_folded.new.first c.in-App.is
    (omega (arith, c.len.ensures, c.if-len-lt2.false)) c.symbol-symbol.ensures
    c.deref-in-App.ensures.value c.deref-in-App-4.ensures.value
    (fold_known c.args.sig.now c.args.inner.now.at c.in-App.name c.in-App.sorts.items
    c.deref-in-App.result.now c.deref-in-App-2.result.now c.deref-in-App-3.result.now
    (option_copied c.symbol-symbol.result) c.places-places.result.now s
    c.symbol-symbol.ensures c.places-places.ensures c.deref-in-App.ensures.value
    c.deref-in-App-2.ensures.value c.deref-in-App-3.ensures.value refl
    c.check_head-own.ensures.sort c.wanted_at-lower.ensures c.wanted_at-upper.ensures)
    c.check_head-own.ensures.first c.check_folded.ensures

pub check-returns-in-Built-clause-sort : goal.check-returns-in-Built-clause-sort
check-returns-in-Built-clause-sort t c =
    c.check_connective.ensures.sort c.args.pat.now.at
    ∙ ap (sort_of_pattern c.args.sig.now) (connective_read c.args.pat.now c.in-Built.op
    c.in-Built.sorts c.in-Built.args c.deref-in-Built-2.result.now c.deref-in-Built.result.now
    c.in-Built.is c.deref-in-Built-2.ensures.value c.deref-in-Built.ensures.value)

pub check-returns-in-Built-clause-first : goal.check-returns-in-Built-clause-first
check-returns-in-Built-clause-first t c =
    c.check_connective.ensures.first c.args.pat.now.at
    ∙ ap (λ u. after c.args.first.now (pattern_faults c.args.sig.now u))
    (connective_read c.args.pat.now c.in-Built.op
    c.in-Built.sorts c.in-Built.args c.deref-in-Built-2.result.now c.deref-in-Built.result.now
    c.in-Built.is c.deref-in-Built-2.ensures.value c.deref-in-Built.ensures.value)

pub check_connective-returns-clause-sort : goal.check_connective-returns-clause-sort
check_connective-returns-clause-sort t c = λ at.
    c.check_sort-own.ensures.sort
    ∙ sym (ap (sort_of_pattern c.args.sig.now) (pair_is at c.args.op c.args.sorts.now
    c.args.args.now c.index-sorts-0.result c.index-args-0.result c.index-args-1.result
    (sym c.is_pair.ensures ∙ c.if-not-is_pair.false) c.index-sorts-0.is c.index-args-0.is
    c.index-args-1.is).0)

pub check_connective-returns-clause-first : goal.check_connective-returns-clause-first
check_connective-returns-clause-first t c = λ at.
    pair_checked c.args.sig.now at (plain_sort c.index-sorts-0.result)
    (unfolded (pattern_tree c.index-args-0.result)) (unfolded (pattern_tree c.index-args-1.result))
    c.index-args-0.result.at c.index-args-1.result.at (option_map sort_no c.check_sort-own.result)
    (option_map sort_no c.check-sort.result) (option_map sort_no c.check-sort-2.result)
    c.args.first.now c.check_sort-own.new.first c.check-sort.new.first c.check_clash.new.first
    c.check-sort-2.new.first c.check_clash-2.new.first c.check_sort-own.ensures.sort
    (byte_of_next-unfolded c.index-args-0.result) (byte_of_next-unfolded c.index-args-1.result)
    c.check-sort.ensures.sort c.check-sort-2.ensures.sort c.check_sort-own.ensures.first
    c.check-sort.ensures.first c.check_clash.ensures c.check-sort-2.ensures.first
    c.check_clash-2.ensures
    ∙ sym (ap (λ u. after c.args.first.now (pattern_faults c.args.sig.now u)) (pair_is at c.args.op
    c.args.sorts.now c.args.args.now c.index-sorts-0.result c.index-args-0.result
    c.index-args-1.result (sym c.is_pair.ensures ∙ c.if-not-is_pair.false) c.index-sorts-0.is
    c.index-args-0.is c.index-args-1.is).0)

pub check_fold-returns-then-len-eq1-clause-sort : goal.check_fold-returns-then-len-eq1-clause-sort
check_fold-returns-then-len-eq1-clause-sort t c =
    c.check_only-then-len-eq1.ensures.sort c.args.inner.now.at
    ∙ ap (sort_of_pattern c.args.sig.now) (only_read c.args.left c.args.inner.now c.in-Built.op
    c.in-Built.sorts c.in-Built.args c.deref-then-len-eq1.result.now c.in-Built.is
    c.deref-then-len-eq1.ensures.value (omega (arith, c.len-in-Built.ensures, c.if-len-eq1.true)))

pub check_fold-returns-then-len-eq1-clause-first : goal.check_fold-returns-then-len-eq1-clause-first
check_fold-returns-then-len-eq1-clause-first t c =
    c.check_only-then-len-eq1.ensures.first c.args.inner.now.at
    ∙ ap (λ u. after c.args.first.now (pattern_faults c.args.sig.now u)) (only_read c.args.left
    c.args.inner.now c.in-Built.op c.in-Built.sorts c.in-Built.args
    c.deref-then-len-eq1.result.now c.in-Built.is c.deref-then-len-eq1.ensures.value
    (omega (arith, c.len-in-Built.ensures, c.if-len-eq1.true)))

pub check_fold-returns-else-len-eq1-clause-sort : goal.check_fold-returns-else-len-eq1-clause-sort
check_fold-returns-else-len-eq1-clause-sort t c =
    c.check_connective.ensures.sort c.args.inner.now.at
    ∙ ap (sort_of_pattern c.args.sig.now) (others_read c.args.left c.args.inner.now c.in-Built.op
    c.in-Built.sorts c.in-Built.args c.deref-in-Built-2.result.now c.deref-in-Built.result.now
    c.in-Built.is c.deref-in-Built-2.ensures.value c.deref-in-Built.ensures.value
    (λ one. c.if-len-eq1.false (omega (arith, c.len-in-Built.ensures, one))))

pub check_fold-returns-else-len-eq1-clause-first : goal.check_fold-returns-else-len-eq1-clause-first
check_fold-returns-else-len-eq1-clause-first t c =
    c.check_connective.ensures.first c.args.inner.now.at
    ∙ ap (λ u. after c.args.first.now (pattern_faults c.args.sig.now u)) (others_read c.args.left
    c.args.inner.now c.in-Built.op c.in-Built.sorts c.in-Built.args
    c.deref-in-Built-2.result.now c.deref-in-Built.result.now c.in-Built.is
    c.deref-in-Built-2.ensures.value c.deref-in-Built.ensures.value
    (λ one. c.if-len-eq1.false (omega (arith, c.len-in-Built.ensures, one))))
