use Rattle.std.proofs.Common.{◌≡◌, ◌++◌, drop}
use Rattle.std.specs.Prelude.{flat_map, slice_get}
use Rattle.mm_frame.specs.PlainFrames.{plain_hypotheses}
use Rattle.mm_frame.specs.HypothesesView.{hypotheses_in}
use Rattle.mm_frame.specs.Places.{found_at}
use Rattle.mm_scope.proofs.scopes.Scopes.copies.Given as goal

abbrev pub invariant-loop-place : goal.invariant-loop-place
invariant-loop-place l = plain_hypotheses l.hyps.items
    ++ flat_map (λ i. found_at (slice_get (hypotheses_in l.self.hyps) i))
    (drop l.place-index l.places)
    ≡ flat_map (λ i. found_at (slice_get (hypotheses_in l.self.hyps) i)) l.places
