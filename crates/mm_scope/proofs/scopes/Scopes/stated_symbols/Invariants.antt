use Rattle.std.proofs.Common.{◌≡◌, ◌++◌, drop}
use Rattle.std.specs.Prelude.{flat_map, slice_get}
use Rattle.mm_frame.specs.HypothesesView.{hypotheses_in}
use Rattle.mm_frame.specs.Places.{places_of}
use Rattle.mm_scope.specs.StatePlaces.{premise_at}
use Rattle.mm_frame.specs.Listed.{is_essential}
use Rattle.mm_scope.proofs.scopes.Scopes.stated_symbols.Given as goal

abbrev pub invariant-loop-place : goal.invariant-loop-place
invariant-loop-place l = l.symbols.items
    ++ flat_map (λ i. premise_at (slice_get (hypotheses_in l.self.hyps) i))
    (drop l.place-index (places_of is_essential (hypotheses_in l.self.hyps)))
    ≡ l.statement
    ++ flat_map (λ i. premise_at (slice_get (hypotheses_in l.self.hyps) i))
    (places_of is_essential (hypotheses_in l.self.hyps))
