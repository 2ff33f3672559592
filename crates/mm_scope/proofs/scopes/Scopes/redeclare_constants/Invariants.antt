use Rattle.std.proofs.Common.{◌≡◌, drop}
use Rattle.std.specs.List.{list_any}
use Rattle.mm_text.specs.Reader.{words_of}
use Rattle.mm_scope.specs.ScopeState.{scope_state}
use Rattle.mm_scope.specs.StateTests.{redeclares_constant}
use Rattle.mm_scope.proofs.scopes.Scopes.redeclare_constants.Given as goal

abbrev pub invariant-loop-token : goal.invariant-loop-token
invariant-loop-token l =
    list_any (redeclares_constant (scope_state l.self))
    (words_of l.bytes (drop l.token-index l.symbols))
    ≡ list_any (redeclares_constant (scope_state l.self)) (words_of l.bytes l.symbols)
