use Rattle.std.specs.Prelude.{◌≡◌, ◌<◌, ℕ, map, All, true}
use Rattle.mm_frame.specs.PlainFrames.{has_number}
use Rattle.mm_frame.specs.Spots.{IsSpot, position_at}
use Rattle.mm_frame.proofs.expression.all_spots.Given as goal

abbrev pub invariant-loop-position : goal.invariant-loop-position
invariant-loop-position l = record {
  each : All (IsSpot l.symbols) l.spots.items;
  all : (i : ℕ) → i < l.position → has_number (map position_at l.spots.items) i ≡ true;
}
