use Rattle.std.proofs.Common.{◌≡◌, drop}
use Rattle.ml_image.specs.NamedSides.{of_whole}
use Rattle.ml_image.specs.PartNames.{part_names}
use Rattle.refute.specs.Choosing.{is_named}
use Rattle.refute.proofs.choosing.names_whole.Given as goal

abbrev pub invariant-loop-name : goal.invariant-loop-name
invariant-loop-name l =
    is_named l.x (of_whole (part_names (drop l.name-index l.names)))
    ≡ is_named l.x (of_whole (part_names l.names))
