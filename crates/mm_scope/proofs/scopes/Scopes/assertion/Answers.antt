use Rattle.mm_scope.specs.ScopeState.{scope_state}
use Rattle.mm_scope.proofs.StandReads.{frame-found}
use Rattle.mm_scope.proofs.scopes.Scopes.assertion.Goals as goal

pub returns-clause-tells : goal.returns-clause-tells
returns-clause-tells a =
    λ c name w naming names. frame-found (scope_state a.args.self.now) c name w naming names
    a.args.label.now _ a.frame_named.ensures
