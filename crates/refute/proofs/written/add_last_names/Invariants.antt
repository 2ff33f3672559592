use Rattle.std.proofs.Common.{◌≡◌, drop}
use Rattle.ml_image.specs.NamedSides.{of_whole}
use Rattle.ml_image.specs.PartNames.{part_names}
use Rattle.refute.specs.Written.{with_last_names}
use Rattle.refute.proofs.written.add_last_names.Given as goal

abbrev pub invariant-loop-name : goal.invariant-loop-name
invariant-loop-name l =
    with_last_names l.variables.items (of_whole (part_names (drop l.name-index l.names)))
    ≡ with_last_names l.fn.variables.items (of_whole (part_names l.names))
