use Rattle.std.proofs.Common.{◌≡◌, ◌++◌, List, ap, sym, subst, ◌∙◌, rules, arith, ◌+◌}
use Rattle.std.proofs.lemmas.Result.{IfOk-weaker}
use Rattle.mm_frame.specs.PlainFrames.{plain_hypothesis}
use Rattle.mm_frame.specs.PlacedHypotheses.{Placed}
use Rattle.mm_frame.specs.PlacedOrder.{placed_at}
use Rattle.mm_frame.specs.TreeView.{placed_in}
use Rattle.mm_frame.specs.TreeOrder.{IsSplit}
use Rattle.mm_frame.proofs.PlacedLists.{from-weaker, up_to-below, placed-low, placed-high}
use Rattle.mm_frame.proofs.PlacedLists.{below-placed, from-placed}
use Rattle.mm_frame.proofs.tree.HypTree.+with.Goals as goal

pub with_first-requires-then-place-first : goal.with_first-requires-then-place-first
with_first-requires-then-place-first t c =
    from-weaker (c.args.place + 1) c.first.result c.args.this.now.value
    (let less = c.if-place-first.true in omega arith)
    (rw c.deref-then-not-is_in_block.ensures at c.first.ensures.from)

pub with_last-requires-then-last-place : goal.with_last-requires-then-last-place
with_last-requires-then-last-place t c =
    up_to-below c.last.result c.args.place c.args.this.now.value c.if-last-place.true
    (rw c.deref-then-not-is_in_block-2.ensures at c.last.ensures.up_to)

pub fork-requires-clause-below : goal.fork-requires-clause-below
fork-requires-clause-below t c =
    let h = plain_hypothesis c.args.hyp in
    let parts = subst IsSplit c.in-Fork.is c.behind-this.invariant.0 in
    let low : c.in_ok-low-in-Fork.low.value ≡ placed_at c.args.place h c.in-Fork.low.value =
    search rules in
    rw low (below-placed c.in-Fork.split c.args.place h c.in-Fork.low.value c.if-place-split.true
    parts.0)

pub fork-requires-else-place-split-clause-from : goal.fork-requires-else-place-split-clause-from
fork-requires-else-place-split-clause-from t c =
    let h = plain_hypothesis c.args.hyp in
    let parts = subst IsSplit c.in-Fork.is c.behind-this.invariant.0 in
    let high : c.in_ok-high-in-Fork.high.value ≡ placed_at c.args.place h c.in-Fork.high.value =
    search rules in
    rw high (from-placed c.in-Fork.split c.args.place h c.in-Fork.high.value c.if-place-split.false
    parts.1)

pub returns-in_ok-clone-in-Fork : goal.returns-in_ok-clone-in-Fork
returns-in_ok-clone-in-Fork t c =
    let h = plain_hypothesis c.args.hyp in
    let parts = subst IsSplit c.in-Fork.is c.behind-this.invariant.0 in
    let low : c.in_ok-low-in-Fork.low.value ≡ placed_at c.args.place h c.in-Fork.low.value =
    search rules in
    let high : c.in_ok-clone-in-Fork.field-0.value ≡ c.in-Fork.high.value = search rules in
    let whole : c.args.this.now.value ≡ c.in-Fork.low.value ++ c.in-Fork.high.value =
    sym (c.behind-this.view_is ∙ c.deref.ensures) ∙ ap placed_in c.in-Fork.is in
    IfOk-weaker c.fork.result _ _
    (λ u is. is ∙ ap (λ (ps : List Placed). ps ++ c.in_ok-clone-in-Fork.field-0.value) low
    ∙ ap (λ (ps : List Placed). placed_at c.args.place h c.in-Fork.low.value ++ ps) high
    ∙
    sym (placed-low c.in-Fork.split c.args.place h c.in-Fork.low.value c.in-Fork.high.value
    parts.1 c.if-place-split.true)
    ∙ sym (ap (placed_at c.args.place h) whole))
    c.fork.ensures

pub returns-in_ok-clone-in-Fork-2 : goal.returns-in_ok-clone-in-Fork-2
returns-in_ok-clone-in-Fork-2 t c =
    let h = plain_hypothesis c.args.hyp in
    let parts = subst IsSplit c.in-Fork.is c.behind-this.invariant.0 in
    let high : c.in_ok-high-in-Fork.high.value ≡ placed_at c.args.place h c.in-Fork.high.value =
    search rules in
    let low : c.in_ok-clone-in-Fork-2.field-0.value ≡ c.in-Fork.low.value = search rules in
    let whole : c.args.this.now.value ≡ c.in-Fork.low.value ++ c.in-Fork.high.value =
    sym (c.behind-this.view_is ∙ c.deref.ensures) ∙ ap placed_in c.in-Fork.is in
    IfOk-weaker c.fork-else-place-split.result _ _
    (λ u is. is ∙ ap (λ (ps : List Placed). ps ++ c.in_ok-high-in-Fork.high.value) low
    ∙ ap (λ (ps : List Placed). c.in-Fork.low.value ++ ps) high
    ∙
    sym (placed-high c.in-Fork.split c.args.place h c.in-Fork.low.value c.in-Fork.high.value
    parts.0 c.if-place-split.false)
    ∙ sym (ap (placed_at c.args.place h) whole))
    c.fork-else-place-split.ensures
