use Rattle.std.proofs.Common.{sym, ◌∙◌}
use Rattle.mm_scope.specs.ScopeState.{scope_state}
use Rattle.mm_scope.proofs.StandReads.{number-variable}
use Rattle.mm_scope.proofs.scopes.Scopes.is_variable.Goals as goal

pub returns-clause-tells : goal.returns-clause-tells
returns-clause-tells a =
    λ c name w naming names. a.has_variable.ensures
    ∙ sym (number-variable (scope_state a.args.self.now) c name w naming names a.args.symbol)
