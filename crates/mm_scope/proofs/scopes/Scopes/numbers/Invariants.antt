use Rattle.std.proofs.Common.{◌≡◌, drop}
use Rattle.mm_text.specs.Reader.{words_of}
use Rattle.mm_scope.specs.ScopeState.{scope_state}
use Rattle.mm_scope.specs.StateTests.{numbers_in, ahead}
use Rattle.mm_scope.proofs.scopes.Scopes.numbers.Given as goal

abbrev pub invariant-loop-token : goal.invariant-loop-token
invariant-loop-token l =
    ahead l.numbers.items (numbers_in (scope_state l.self) l.need
    (words_of l.bytes (drop l.token-index l.tokens)))
    ≡ numbers_in (scope_state l.self) l.need (words_of l.bytes l.tokens)
