use Rattle.std.proofs.Common.{take}
use Rattle.ml_image.specs.PartNames.{part_names, IsConjoined}
use Rattle.guard_body.specs.Renaming.{itself}
use Rattle.guard_body.proofs.images.conjoined.Given as goal

abbrev pub invariant-loop-name : goal.invariant-loop-name
invariant-loop-name l =
    IsConjoined itself (part_names (take l.name-index l.names)) l.initial.made l.made
