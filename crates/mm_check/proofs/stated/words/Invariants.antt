use Rattle.std.proofs.Common.{◌≡◌, map, take}
use Rattle.mm_scope.specs.ScopeState.{scope_state}
use Rattle.mm_check.specs.Stated.{words, symbol_token}
use Rattle.mm_check.proofs.stated.words.Given as goal

abbrev pub invariant-loop-symbol : goal.invariant-loop-symbol
invariant-loop-symbol l =
    words l.words.items
    ≡ map (symbol_token (scope_state l.scopes).symbols) (take l.symbol-index l.symbols)
