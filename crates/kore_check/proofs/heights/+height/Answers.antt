use Rattle.std.proofs.Common.{rules, ◌≡◌, ◌+◌, ◌-◌, ℕ, List, max, drop, sym, ◌∙◌, ap, arith, map}
use Rattle.std.proofs.Common.{subst}
use Rattle.kore_ast.specs.declared.tree.Pat.{Pat}
use Rattle.kore_ast.specs.Plain.{plain_sort, pattern_tree}
use Rattle.kore_check.specs.Folds.{only_of, unfolded_height, unfolded}
use Rattle.kore_check.specs.FoldHeights.{cut}
use Rattle.kore_check.proofs.Applications.{reads}
use Rattle.kore_check.proofs.FoldChecks.{application_folded, fold_short}
use Rattle.kore_check.proofs.HeightLaws.{left-more, left-end, left_whole, right-end, right_whole}
use Rattle.kore_check.proofs.HeightLaws.{right-more, only_high, grown_left, grown_from, cut-grown}
use Rattle.kore_check.proofs.Connectives.{only_read, others_read}
use Rattle.kore_check.proofs.heights.+height.Goals as goal

pub only_height-returns-then-args-ne1 : goal.only_height-returns-then-args-ne1
only_height-returns-then-args-ne1 t c =
    λ at. ap cut (sym (only_high at c.args.args.now c.if-args-ne1.true))

pub fold_height-returns-then-len-lt2 : goal.fold_height-returns-then-len-lt2
fold_height-returns-then-len-lt2 t c =
    c.only_height.ensures c.args.inner.now.at
    ∙ ap (λ (ps : List Pat). cut (unfolded_height (only_of c.args.inner.now.at (reads ps))))
    c.deref.ensures.value
    ∙ ap (λ u. cut (unfolded_height u)) (fold_short c.args.left c.args.inner.now.at c.in-App.field-0
    (map plain_sort c.in-App.field-1.items) c.in-App.args.items
    (omega (arith, c.len.ensures, c.if-len-lt2.true))
    ∙
    sym (application_folded c.args.left c.args.inner.now c.in-App.field-0 c.in-App.field-1
    c.in-App.args c.in-App.is))

pub left_height-loop-i-preserved : goal.left_height-loop-i-preserved
left_height-loop-i-preserved t c =
    let made : c.one_more-height.result ≡ cut (max c.loop-i.height c.height_of.result + 1) =
    c.one_more-height.ensures ∙ ap (λ k. cut (k + 1)) (search rules) in
    record {
      low = omega (arith, made);
      whole =
          left-more c.loop-i.height c.height_of.result c.one_more-height.result c.args.args.now
          c.loop-i.i c.index-args-i.result _ c.loop-i-test.true c.index-args-i.is
          c.height_of.ensures made c.loop-i.invariant.whole;
    }

pub left_height-returns : goal.left_height-returns
left_height-returns t c = λ byte name ss.
    left-end c.loop-i.height c.args.args.now c.loop-i.i _ c.loop-i-test.false c.loop-i.invariant.low
    c.loop-i.invariant.whole
    ∙ ap (λ h. cut (grown_left h (drop 1 c.args.args.now))) c.height_of-height.ensures
    ∙ cut-grown (unfolded_height (unfolded (pattern_tree c.index-args-0.result)))
    (drop 1 c.args.args.now)
    ∙ ap cut (sym (left_whole byte name ss c.args.args.now c.index-args-0.result c.requires
    c.index-args-0.is))

pub right_height-loop-i-preserved : goal.right_height-loop-i-preserved
right_height-loop-i-preserved t c =
    let made : c.one_more-height.result ≡ cut (max c.loop-i.height c.height_of.result + 1) =
    c.one_more-height.ensures ∙ ap (λ k. cut (k + 1)) (search rules) in
    let back : c.loop-i.i - 1 + 1 ≡ c.loop-i.i = omega (arith, c.loop-i-test.true) in
    right-more c.loop-i.height c.height_of.result c.one_more-height.result c.args.args.now
    (c.loop-i.i - 1)
    c.index-args-i.result
    (omega (arith, c.loop-i-test.true, c.loop-i.auto.i, c.requires))
    c.index-args-i.is c.height_of.ensures made
    (subst (λ (n : ℕ). c.loop-i.height ≡ cut (grown_from (drop n c.args.args.now))) (sym back)
    c.loop-i.invariant)

pub right_height-returns : goal.right_height-returns
right_height-returns t c = λ byte name ss.
    right-end c.args.args.now c.loop-i.i c.loop-i.height (omega (arith, c.loop-i-test.false))
    c.loop-i.invariant
    ∙ ap cut (sym (right_whole byte name ss c.args.args.now c.requires))

pub fold_height-returns-then-len-eq1 : goal.fold_height-returns-then-len-eq1
fold_height-returns-then-len-eq1 t c =
    c.only_height-then-len-eq1.ensures c.args.inner.now.at
    ∙ ap (λ u. cut (unfolded_height u)) (only_read c.args.left c.args.inner.now c.in-Built.op
    c.in-Built.sorts c.in-Built.args c.deref-then-len-eq1.result.now c.in-Built.is
    c.deref-then-len-eq1.ensures.value (omega (arith, c.len-in-Built.ensures, c.if-len-eq1.true)))

pub fold_height-returns-else-len-eq1 : goal.fold_height-returns-else-len-eq1
fold_height-returns-else-len-eq1 t c =
    c.connective_height.ensures c.args.inner.now.at
    ∙ ap (λ u. cut (unfolded_height u)) (others_read c.args.left c.args.inner.now c.in-Built.op
    c.in-Built.sorts c.in-Built.args c.deref-in-Built-2.result.now c.deref-in-Built.result.now
    c.in-Built.is c.deref-in-Built-2.ensures.value c.deref-in-Built.ensures.value
    (λ one. c.if-len-eq1.false (omega (arith, c.len-in-Built.ensures, one))))
