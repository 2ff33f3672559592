use Rattle.std.proofs.Common.{◌≡◌, ◌≤◌, length, drop}
use Rattle.ml_image.specs.NamedSides.{of_whole}
use Rattle.ml_image.specs.PartNames.{part_names}
use Rattle.refute.specs.Written.{with_first_names}
use Rattle.refute.proofs.written.add_first_names.Given as goal

abbrev pub decreases-loop-left : goal.decreases-loop-left
decreases-loop-left l = l.left

abbrev pub invariant-loop-left : goal.invariant-loop-left
invariant-loop-left l = record {
  low : l.left ≤ length l.names;
  added : l.variables.items
      ≡ with_first_names l.fn.variables.items (of_whole (part_names (drop l.left l.names)));
}
