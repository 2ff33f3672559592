use Rattle.std.proofs.Common.{◌≡◌, take}
use Rattle.rule_core.specs.ProgramView.{names_of}
use Rattle.ml_image.specs.PartNames.{names_renamed}
use Rattle.guard_body.specs.Renaming.{names_at, number_in}
use Rattle.guard_body.proofs.renaming.renamed_names.Given as goal

abbrev pub invariant-loop-name : goal.invariant-loop-name
invariant-loop-name l =
    names_of l.made.items
    ≡ names_at l.place (names_renamed (number_in l.numbers) (names_of (take l.name-index l.named)))
