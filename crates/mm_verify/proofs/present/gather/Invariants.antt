use Rattle.std.specs.Prelude.{◌≡◌, ◌-◌, ◌≤◌, ◌&&◌, ℕ, drop, length, map, take, slice_get}
use Rattle.mm_frame.specs.PlainFrames.{has_number}
use Rattle.mm_frame.specs.Places.{passes}
use Rattle.mm_frame.specs.Spots.{position_at}
use Rattle.mm_verify.specs.LongStatementView.{long_parts}
use Rattle.mm_verify.specs.Present.{has_text}
use Rattle.mm_verify.proofs.present.gather.Given as goal

abbrev pub invariant-loop-at : goal.invariant-loop-at
invariant-loop-at l = record {
  room : l.at ≤ length l.spots;
  gathered : (i : ℕ) → has_number l.to.items i
      ≡ (has_number (map position_at (take l.at l.spots)) i
      && passes (has_text (drop l.base l.stack)) (slice_get (long_parts l.statement) i));
}

abbrev pub decreases-loop-at : goal.decreases-loop-at
decreases-loop-at l = length l.spots - l.at
