use Rattle.std.proofs.Common.{◌≡◌, drop}
use Rattle.std.specs.List.{list_all}
use Rattle.mm_scope.specs.ScopeState.{scope_state}
use Rattle.mm_check.specs.AxiomTests.{is_known}
use Rattle.mm_check.proofs.object_types.all_known.Given as goal

abbrev pub invariant-loop-symbol : goal.invariant-loop-symbol
invariant-loop-symbol l =
    list_all (is_known (scope_state l.scopes).symbols l.known) (drop l.symbol-index l.statement)
    ≡ list_all (is_known (scope_state l.scopes).symbols l.known) l.statement
