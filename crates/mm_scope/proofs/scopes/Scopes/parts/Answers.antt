use Rattle.std.proofs.Common.{rules, ◌≡◌, ℕ, List, ap, ◌∙◌}
use Rattle.std.proofs.lemmas.List.Folds.{list_any-append}
use Rattle.mm_frame.specs.PlainFrames.{in_group, in_groups, groups_of}
use Rattle.mm_scope.specs.ScopeState.{scope_state}
use Rattle.mm_scope.specs.StatePlaces.{typed_places}
use Rattle.mm_frame.specs.PlacedHypotheses.{Placed}
use Rattle.mm_frame.specs.PlacedOrder.{find_placed, IsAscending}
use Rattle.mm_scope.specs.Sharing.{taken_at, own_shares}
use Rattle.mm_scope.proofs.MandatoryTrees.{own-mandatory, mandatory-listed}
use Rattle.mm_scope.proofs.CommonPairs.{pairs-joined}
use Rattle.mm_scope.proofs.scopes.Scopes.parts.Goals as goal

pub returns : goal.returns
returns c = λ placed is.
    let h = scope_state c.args.self.now in
    let statement = c.args.statement.now in
    let own = c.in_ok-own.own.items in
    let old = c.args.common.now.tree.value in
    let new = c.in_ok-tree.tree.value in
    let common = groups_of c.in_ok-common_pairs.field-0.value.items in
    let mine = groups_of c.in_ok-own_pairs.field-0.items in
    let places : c.deref-2.result.now ≡ typed_places h own =
    c.deref-2.ensures.value ∙ c.in_ok-places.ensures
    ∙ ap (typed_places h) c.deref.ensures.value in
    let start : c.in_ok-clone.field-0.value ≡ old = search rules in
    let grown : (i : ℕ) → find_placed new i ≡ taken_at h.hypotheses (typed_places h own)
    (find_placed old i) i =
    λ i.
    c.in_ok-tree.ensures i
    ∙ ap (λ (ns : List ℕ). taken_at h.hypotheses ns (find_placed c.in_ok-clone.field-0.value i) i)
    places
    ∙ ap (λ (ps : List Placed). taken_at h.hypotheses (typed_places h own) (find_placed ps i) i)
    start in
    let up : IsAscending new = rw c.deref-3.ensures at c.ascend.ensures in
    record {
      hyps =
          mandatory-listed h.hypotheses statement new up (own-mandatory h placed statement own
          c.in_ok-own.ensures.symbols old new (is.tree placed) grown);
      apart = λ a b.
          list_any-append (in_group a b) common mine
          ∙ pairs-joined h.hypotheses h.disjoint statement own c.in_ok-own.ensures.symbols
          (in_groups common a b) (in_groups mine a b) a b
          (c.in_ok-common_pairs.ensures is.pairs a b)
          (c.in_ok-own_pairs.ensures a b
          ∙ ap (λ (ns : List ℕ). own_shares h.hypotheses h.disjoint ns a b)
          c.deref-4.ensures.value);
    }
