use Rattle.std.proofs.Common.{◌≡◌, ◌++◌, drop}
use Rattle.mm_scope.specs.ScopeState.{scope_state}
use Rattle.mm_frame.specs.HypothesesView.{hypotheses_in}
use Rattle.mm_frame.specs.Places.{places_of}
use Rattle.mm_scope.specs.StatePlaces.{typed_places}
use Rattle.mm_frame.specs.Listed.{is_essential}
use Rattle.mm_scope.proofs.scopes.Scopes.places.Given as goal

abbrev pub invariant-loop-n : goal.invariant-loop-n
invariant-loop-n l = l.places.items ++ typed_places (scope_state l.self) (drop l.n-index l.needed)
    ≡ places_of is_essential (hypotheses_in l.self.hyps)
    ++ typed_places (scope_state l.self) l.needed
