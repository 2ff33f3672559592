use Rattle.std.specs.Prelude.{◌≡◌, map, flat_map, take}
use Rattle.mm_frame.specs.PlainFrames.{groups_of}
use Rattle.mm_verify.specs.Places.{symbols_in, parts_of}
use Rattle.mm_verify.specs.Locating.{AreLocated}
use Rattle.mm_verify.proofs.parts.groups_located.Given as goal

abbrev pub invariant-loop-group : goal.invariant-loop-group
invariant-loop-group l = record {
  symbols : map symbols_in l.all.items ≡ groups_of (take l.group-index l.groups);
  places : AreLocated l.places (flat_map parts_of l.all.items);
}
