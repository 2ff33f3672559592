use Rattle.std.proofs.Common.{ap, ◌∙◌}
use Rattle.mm_frame.specs.PlainFrames.{has_number}
use Rattle.mm_scope.specs.ScopeState.{scope_state}
use Rattle.mm_scope.proofs.FramePlaces.{needed-has}
use Rattle.mm_scope.proofs.scopes.Scopes.needed.Goals as goal

pub returns-clause-symbols : goal.returns-clause-symbols
returns-clause-symbols c = λ n.
    c.ascending.ensures.numbers n
    ∙ ap (λ ms. has_number ms n) c.in_ok-symbols.ensures
    ∙ needed-has (scope_state c.args.self.now).hypotheses c.args.statement.now n
