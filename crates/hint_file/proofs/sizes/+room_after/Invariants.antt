use Rattle.std.proofs.Common.{◌≡◌, ◌<◌, ◌+◌, drop}
use Rattle.term_core.specs.Forests.{forest, children, sizes}
use Rattle.hint_file.proofs.sizes.+room_after.Given as goal

abbrev pub decreases-room_after : goal.decreases-room_after
decreases-room_after g l = l.room

abbrev pub invariant-loop-i : goal.invariant-loop-i
invariant-loop-i g l = record {
  left : l.left + 1 + sizes (forest (children l.term))
      ≡ l.room + sizes (forest (drop l.i (children l.term)));
  less : l.left < l.room;
}
