use Rattle.std.proofs.Common.{◌≡◌, take}
use Rattle.proof_nodes.specs.Numbering.{HasPlaces}
use Rattle.proof_nodes.proofs.letters.mandatory_places.Given as goal

abbrev pub invariant-loop-label : goal.invariant-loop-label
invariant-loop-label l =
    HasPlaces l.numbering × (l.numbering.table.items ≡ take l.label-index l.mandatory)
