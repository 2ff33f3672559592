use Rattle.std.proofs.Common.{◌≡◌, ℕ, take}
use Rattle.mm_frame.specs.HypothesesView.{hypotheses_in}
use Rattle.mm_frame.specs.PlacedOrder.{find_placed}
use Rattle.mm_scope.specs.Sharing.{taken_at}
use Rattle.mm_scope.proofs.scopes.Scopes.with_places.Given as goal

abbrev pub invariant-loop-place : goal.invariant-loop-place
invariant-loop-place l = (i : ℕ)
    → find_placed l.tree.value i
    ≡ taken_at (hypotheses_in l.self.hyps) (take l.place-index l.places)
    (find_placed l.fn.tree.value i) i
