use Rattle.std.proofs.Common.{drop}
use Rattle.mm_text.specs.Reader.{words_of}
use Rattle.mm_scope.specs.ScopeState.{ScopeState, scope_state}
use Rattle.mm_scope.specs.StateSteps.{AddsVariables}
use Rattle.mm_scope.proofs.scopes.Scopes.add_variables.Given as goal

-- adding the remaining symbols completes adding all of them
abbrev pub invariant-loop-token : goal.invariant-loop-token
invariant-loop-token l = (last : ScopeState)
    → AddsVariables (scope_state l.self) (words_of l.bytes (drop l.token-index l.tokens)) last
    → AddsVariables (scope_state l.initial.self) (words_of l.bytes l.tokens) last
