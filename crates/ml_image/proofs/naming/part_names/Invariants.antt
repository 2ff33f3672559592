use Rattle.std.proofs.Common.{◌≡◌, take}
use Rattle.rule_core.specs.ProgramView.{names_of}
use Rattle.ml_image.specs.PartNames.{part_names}
use Rattle.ml_image.proofs.naming.part_names.Given as goal

abbrev pub invariant-loop-name : goal.invariant-loop-name
invariant-loop-name l = part_names l.names.items ≡ names_of (take l.name-index l.named)
