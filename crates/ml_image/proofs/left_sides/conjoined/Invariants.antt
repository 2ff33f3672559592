use Rattle.std.proofs.Common.{take}
use Rattle.ml_image.specs.Numbering.{number_in}
use Rattle.ml_image.specs.PartNames.{part_names, IsConjoined}
use Rattle.ml_image.proofs.left_sides.conjoined.Given as goal

abbrev pub invariant-loop-name : goal.invariant-loop-name
invariant-loop-name l =
    IsConjoined (number_in l.numbering) (part_names (take l.name-index l.parts)) l.initial.made
    l.made
