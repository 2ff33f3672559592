use Rattle.std.proofs.Common.{arith}
use Rattle.proof_nodes.proofs.Chains.{kept_same, no_parts}
use Rattle.proof_nodes.proofs.nodes.chain_of.Goals as goal

pub loop-part-init : goal.loop-part-init
loop-part-init c =
    (c.requires, kept_same c.args.links.now.keys, omega arith, no_parts c.args.links.now.keys)
