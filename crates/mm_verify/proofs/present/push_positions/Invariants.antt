use Rattle.std.specs.Prelude.{◌≡◌, ◌++◌, map, take}
use Rattle.mm_frame.specs.Spots.{position_at}
use Rattle.mm_verify.proofs.present.push_positions.Given as goal

abbrev pub invariant-loop-spot : goal.invariant-loop-spot
invariant-loop-spot l = l.to.items ≡ l.fn.to.items ++ map position_at (take l.spot-index l.spots)
