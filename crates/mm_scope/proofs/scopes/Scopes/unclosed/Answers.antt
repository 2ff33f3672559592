use Rattle.std.proofs.Common.{sym, ◌∙◌}
use Rattle.mm_scope.specs.ScopeState.{scope_state}
use Rattle.mm_scope.proofs.StandReads.{first-block}
use Rattle.mm_scope.proofs.scopes.Scopes.unclosed.Goals as goal

pub returns : goal.returns
returns a = λ c w. a.first_block.ensures ∙ sym (first-block (scope_state a.args.self.now) c w)
