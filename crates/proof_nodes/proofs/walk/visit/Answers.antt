use Rattle.std.proofs.Common.{refl}
use Rattle.proof_nodes.specs.Walking.{repeats_node}
use Rattle.proof_nodes.proofs.Tasks.{chain-at, on_ok, saved-at, visited}
use Rattle.proof_nodes.proofs.walk.visit.Goals as goal

pub push_visits-requires-clause-chain : goal.push_visits-requires-clause-chain
push_visits-requires-clause-chain c =
    chain-at c.args.links.now c.args.keys.now c.args.node c.requires.keys c.requires.node

pub returns-in-Some : goal.returns-in-Some
returns-in-Some c =
    repeats_node c.args.node c.in-Some.number refl
    (saved-at c.args.walk.now.saved.keys c.args.node c.in-Some.number c.in-Some.ensures.index) refl
    refl c.in_ok-push.ensures.items

pub returns : goal.returns
returns c =
    on_ok c.push_visits.result
    (λ put. visited c.args.links.now c.args.keys.now c.args.node c.args.walk.now _
    c.push-2.new.self.items c.requires.node c.in_ok-push-2.ensures.items put refl refl)
    c.push_visits.ensures
