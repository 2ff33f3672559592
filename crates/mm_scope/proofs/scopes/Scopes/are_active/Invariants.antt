use Rattle.std.proofs.Common.{◌≡◌, drop}
use Rattle.std.specs.List.{list_all}
use Rattle.mm_text.specs.Reader.{words_of}
use Rattle.mm_scope.specs.ScopeState.{scope_state}
use Rattle.mm_scope.specs.StateTests.{is_active_in}
use Rattle.mm_scope.proofs.scopes.Scopes.are_active.Given as goal

abbrev pub invariant-loop-token : goal.invariant-loop-token
invariant-loop-token l =
    list_all (is_active_in (scope_state l.self)) (words_of l.bytes (drop l.token-index l.tokens))
    ≡ list_all (is_active_in (scope_state l.self)) (words_of l.bytes l.tokens)
