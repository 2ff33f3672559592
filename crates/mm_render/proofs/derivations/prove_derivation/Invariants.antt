use Rattle.std.proofs.Common.{◌≡◌, [], ◌∷◌, ◌++◌}
use Rattle.mm_proof.specs.Listings.{trees_of}
use Rattle.mm_render.specs.Parts.{Leads, parts_weight, proof_by}
use Rattle.mm_render.proofs.derivations.prove_derivation.Given as goal

abbrev pub invariant-loop-next : goal.invariant-loop-next
invariant-loop-next l = (l.table.serial ≡ l.fn.table.serial)
    × Leads l.table.serial l.at l.stack.items (trees_of l.table)
    (trees_of l.fn.table ++ proof_by l.fn.table.serial l.at l.derivation ∷ [])

abbrev pub decreases-loop-next : goal.decreases-loop-next
decreases-loop-next l = parts_weight l.stack.items
