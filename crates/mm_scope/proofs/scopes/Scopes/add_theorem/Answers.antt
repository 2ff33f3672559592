use Rattle.mm_scope.specs.ScopeState.{scope_state}
use Rattle.mm_scope.proofs.Proposed.{theorem_added}
use Rattle.mm_scope.proofs.scopes.Scopes.add_theorem.Goals as goal

pub returns-in-Ok-clause-stands : goal.returns-in-Ok-clause-stands
returns-in-Ok-clause-stands c =
    λ bytes d s w p. theorem_added bytes (scope_state c.args.self.now) d s c.args.theorem
    (scope_state c.add_assertion.new.self) w p c.in-Ok.ensures
