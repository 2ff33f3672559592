use Rattle.std.proofs.Common.{rules, ◌≡◌, ℕ, length, List, ap, subst, ◌∙◌}
use Rattle.std.proofs.lemmas.Result.{IfOk-weaker}
use Rattle.mm_database.specs.Frames.{essential}
use Rattle.mm_frame.specs.ExpressionView.{expression_symbols}
use Rattle.mm_scope.specs.ScopeState.{scope_state}
use Rattle.mm_scope.specs.StatePlaces.{typed_places}
use Rattle.mm_frame.specs.PlacedHypotheses.{Placed}
use Rattle.mm_frame.specs.PlacedOrder.{placed_at, find_placed}
use Rattle.mm_frame.specs.PlainFrames.{has_number}
use Rattle.mm_scope.specs.Sharing.{taken_at, is_own_number}
use Rattle.mm_scope.proofs.MandatoryTrees.{next-mandatory}
use Rattle.mm_frame.proofs.PlacedLists.{find-placed}
use Rattle.mm_scope.proofs.scopes.Scopes.next_tree.Goals as goal

pub returns : goal.returns
returns c =
    let h = scope_state c.args.self.now in
    let statement = expression_symbols c.args.statement.now.value in
    let own = c.in_ok-own.own.items in
    let symbols : (n : ℕ) → has_number own n ≡ is_own_number h.hypotheses statement n =
    subst (λ (ns : List ℕ). (n : ℕ) → has_number own n ≡ is_own_number h.hypotheses ns n)
    (c.symbols.ensures ∙ ap expression_symbols c.deref.ensures) c.in_ok-own.ensures.symbols in
    let old = c.args.tree.now.value in
    let mid = c.in_ok-tree.tree.value in
    let e = essential c.args.label.now statement in
    let grew : mid ≡ placed_at (length h.hypotheses) e old = search rules in
    let places : c.deref-3.result.now ≡ typed_places h own =
    c.deref-3.ensures.value ∙ c.in_ok-places.ensures
    ∙ ap (typed_places h) c.deref-2.ensures.value in
    IfOk-weaker c.with_places.result _ _
    (λ t grown placed has.
    next-mandatory h placed statement own symbols c.args.label.now old mid
    t.value has
    (λ i. ap (λ (ps : List Placed). find_placed ps i) grew
    ∙ find-placed (length h.hypotheses) i e old)
    (λ i. grown i ∙ ap (λ (ns : List ℕ). taken_at h.hypotheses ns (find_placed mid i) i) places))
    c.with_places.ensures
