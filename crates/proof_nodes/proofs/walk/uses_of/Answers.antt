use Rattle.proof_nodes.proofs.Tasks.{chain-at}
use Rattle.proof_nodes.proofs.walk.uses_of.Goals as goal

pub count_parts-requires-clause-chain : goal.count_parts-requires-clause-chain
count_parts-requires-clause-chain c =
    chain-at c.args.links.now c.args.keys.now c.loop-chain.chain-index c.requires.keys
    c.loop-chain-test.true
