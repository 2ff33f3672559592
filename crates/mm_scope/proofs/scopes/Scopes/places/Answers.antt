use Rattle.std.proofs.Common.{◌≡◌, [], ◌++◌, drop, ap, sym, ◌∙◌}
use Rattle.std.specs.Prelude.{nat_eq}
use Rattle.std.proofs.lemmas.List.{append-nil, drop_all}
use Rattle.std.proofs.lemmas.List.Folds.{list_any-append}
use Rattle.mm_frame.specs.PlainFrames.{has_number}
use Rattle.mm_scope.specs.ScopeState.{scope_state}
use Rattle.mm_frame.specs.Places.{places_of}
use Rattle.std.proofs.lemmas.List.Filters.{dedup_is}
use Rattle.std.proofs.lemmas.Map.Keys.{IsStrictlyIncreasing-dedup}
use Rattle.mm_frame.proofs.Placing.{sorted-has}
use Rattle.mm_frame.specs.Listed.{is_essential}
use Rattle.mm_scope.specs.StatePlaces.{typed_places}
use Rattle.mm_scope.proofs.scopes.Scopes.places.Goals as goal

pub returns-clause-ascending : goal.returns-clause-ascending
returns-clause-ascending c =
    let is = dedup_is _ _ _ c.dedup.ensures.filtered in
    rw is (IsStrictlyIncreasing-dedup _ c.sort_unstable.ensures.sorted)

gathered : (c : goal.After-dedup)
    → c.loop-n.places.items
    ≡ places_of is_essential (scope_state c.args.self.now).hypotheses
    ++ typed_places (scope_state c.args.self.now) c.args.needed.now
gathered c =
    let done : drop c.loop-n.n-index c.args.needed.now ≡ [] =
    drop_all _ c.args.needed.now c.loop-n-test.false in
    sym (append-nil c.loop-n.places.items)
    ∙ ap (λ ns. c.loop-n.places.items ++ typed_places (scope_state c.args.self.now) ns)
    (sym done) ∙ c.loop-n.invariant

pub returns-clause-places : goal.returns-clause-places
returns-clause-places c = λ i.
    sorted-has _ _ _ c.sort_unstable.ensures.permutation (dedup_is _ _ _ c.dedup.ensures.filtered) i
    ∙ ap (λ ms. has_number ms i) (gathered c)
    ∙ list_any-append (λ m. nat_eq m i)
    (places_of is_essential (scope_state c.args.self.now).hypotheses)
    (typed_places (scope_state c.args.self.now) c.args.needed.now)
