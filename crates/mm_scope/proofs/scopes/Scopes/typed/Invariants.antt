use Rattle.std.proofs.Common.{◌≡◌, ◌++◌, drop}
use Rattle.mm_scope.specs.ScopeState.{scope_state}
use Rattle.mm_scope.specs.StatePlaces.{typed_places}
use Rattle.mm_scope.proofs.scopes.Scopes.typed.Given as goal

abbrev pub invariant-loop-n : goal.invariant-loop-n
invariant-loop-n l = l.places.items ++ typed_places (scope_state l.self) (drop l.n-index l.numbers)
    ≡ typed_places (scope_state l.self) l.numbers
