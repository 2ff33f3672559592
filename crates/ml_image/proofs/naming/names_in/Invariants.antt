use Rattle.std.proofs.Common.{◌≡◌, take}
use Rattle.ml_image.specs.NamedSides.{of_child}
use Rattle.ml_image.specs.PartNames.{part_names}
use Rattle.ml_image.proofs.naming.names_in.Given as goal

abbrev pub invariant-loop-name : goal.invariant-loop-name
invariant-loop-name l =
    part_names l.inside.items ≡ of_child l.child (part_names (take l.name-index l.names))
