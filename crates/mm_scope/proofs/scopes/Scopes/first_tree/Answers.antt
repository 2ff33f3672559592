use Rattle.std.proofs.Common.{rules, ◌≡◌, ℕ, [], ◌∷◌, length, List, ap, subst, ◌∙◌}
use Rattle.std.specs.Prelude.{◌||◌}
use Rattle.std.proofs.lemmas.Result.{IfOk-weaker}
use Rattle.mm_database.specs.Frames.{essential}
use Rattle.mm_frame.specs.ExpressionView.{expression_symbols}
use Rattle.mm_frame.specs.PlainFrames.{has_number}
use Rattle.mm_frame.specs.NeededNumbers.{is_needed_number}
use Rattle.mm_scope.specs.ScopeState.{scope_state}
use Rattle.mm_scope.specs.StatePlaces.{typed_places}
use Rattle.mm_frame.specs.Listed.{is_essential}
use Rattle.mm_frame.specs.Places.{places_of}
use Rattle.mm_frame.specs.PlacedHypotheses.{Placed}
use Rattle.mm_frame.specs.PlacedOrder.{find_placed}
use Rattle.mm_scope.specs.Sharing.{taken_at}
use Rattle.mm_scope.proofs.MandatoryTrees.{first-mandatory}
use Rattle.mm_scope.proofs.scopes.Scopes.first_tree.Goals as goal

pub returns : goal.returns
returns c =
    let h = scope_state c.args.self.now in
    let statement = expression_symbols c.args.statement.now.value in
    let needed = c.in_ok-needed.needed.items in
    let places = c.in_ok-places.places.items in
    let symbols : (n : ℕ) → has_number needed n ≡ is_needed_number h.hypotheses statement n =
    subst (λ (ns : List ℕ). (n : ℕ) → has_number needed n ≡ is_needed_number h.hypotheses ns n)
    (c.symbols.ensures ∙ ap expression_symbols c.deref.ensures) c.in_ok-needed.ensures.symbols in
    let mid = c.in_ok-tree.tree.value in
    let leaf : mid ≡ (length h.hypotheses, essential c.args.label.now statement) ∷ [] =
    search rules in
    let stand : (i : ℕ) → has_number places i ≡ (has_number (places_of is_essential h.hypotheses) i
    || has_number (typed_places h needed) i) =
    subst (λ (ns : List ℕ). (i : ℕ)
    → has_number places i
    ≡ (has_number (places_of is_essential h.hypotheses) i
    || has_number (typed_places h ns) i)) c.deref-2.ensures.value
    c.in_ok-places.ensures.places in
    IfOk-weaker c.with_places.result _ _
    (λ t grown placed.
    first-mandatory h placed statement needed places symbols stand
    c.args.label.now mid t.value
    (λ i. ap (λ (ps : List Placed). find_placed ps i) leaf)
    (λ i. grown i
    ∙ ap (λ (ns : List ℕ). taken_at h.hypotheses ns (find_placed mid i) i)
    c.deref-3.ensures.value))
    c.with_places.ensures
