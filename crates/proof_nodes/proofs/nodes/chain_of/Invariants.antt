use Rattle.std.proofs.Common.{◌≡◌, ◌≤◌, length, take}
use Rattle.proof_nodes.specs.Links.{parts_of, AreLinks, KeepsChains}
use Rattle.proof_nodes.proofs.nodes.chain_of.Given as goal

abbrev pub invariant-loop-part : goal.invariant-loop-part
invariant-loop-part l =
    AreLinks l.links.keys × KeepsChains l.initial.links.keys l.links.keys
    × (l.chain ≤ length l.links.keys)
    × (parts_of l.links.keys l.chain ≡ take l.part-index l.parts)
