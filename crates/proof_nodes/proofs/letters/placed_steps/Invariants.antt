use Rattle.std.proofs.Common.{◌≡◌, ◌++◌, ℕ, List, take}
use Rattle.proof_nodes.specs.Numbering.{AreAmong, AreNew, ArePlaced, HasPlaces}
use Rattle.proof_nodes.specs.Walking.{labels_of}
use Rattle.proof_nodes.proofs.letters.placed_steps.Given as goal

abbrev pub invariant-loop-step : goal.invariant-loop-step
invariant-loop-step l =
    HasPlaces l.numbering
    × ArePlaced l.numbering.table.items (take l.step-index l.steps) l.placed.items
    × ((listed : List ℕ)
    × (l.numbering.table.items ≡ l.initial.numbering.table.items ++ listed)
    × AreNew l.initial.numbering.table.items listed
    × AreAmong (labels_of (take l.step-index l.steps)) listed)
