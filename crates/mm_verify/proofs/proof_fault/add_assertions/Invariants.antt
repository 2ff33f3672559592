use Rattle.std.specs.Prelude.{◌≡◌, ◌-◌, map, take, length}
use Rattle.mm_scope.specs.ScopeState.{scope_state}
use Rattle.mm_verify.specs.StoredView.{stored_frame}
use Rattle.mm_verify.proofs.proof_fault.add_assertions.Given as goal

abbrev pub invariant-loop-frames : goal.invariant-loop-frames
invariant-loop-frames l = map stored_frame l.assertions.items
    ≡ take (length l.assertions.items) (scope_state l.scopes).frames

abbrev pub decreases-loop-frames : goal.decreases-loop-frames
decreases-loop-frames l = length (scope_state l.scopes).frames - length l.assertions.items
