use Rattle.std.proofs.Common.{ap, ◌∙◌}
use Rattle.std.specs.Prelude.{flat_map, slice_get}
use Rattle.std.proofs.lemmas.Result.{IfOk-weaker}
use Rattle.mm_scope.specs.ScopeState.{scope_state}
use Rattle.mm_frame.specs.Places.{found_at}
use Rattle.mm_scope.proofs.FramePlaces.{mandatory-filter}
use Rattle.mm_scope.proofs.scopes.Scopes.mandatory_hyps.Goals as goal

pub returns : goal.returns
returns c =
    let h = scope_state c.args.self.now in
    let places = c.in_ok-places.places.items in
    IfOk-weaker c.copies.result _ _
    (λ v is placed. is
    ∙ ap (flat_map (λ i. found_at (slice_get h.hypotheses i))) c.deref.ensures.value
    ∙ mandatory-filter h placed c.args.needed.now places c.in_ok-places.ensures.ascending
    c.in_ok-places.ensures.places)
    c.copies.ensures
