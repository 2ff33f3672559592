use Rattle.std.proofs.Common.{◌≡◌, List, ap, ◌∙◌, ℕ, Some}
use Rattle.std.specs.Prelude.{slice_get}
use Rattle.proof_nodes.proofs.TableLaws.{extended, links_only, key-node, if_ok}
use Rattle.proof_nodes.specs.TableView.{nodes_of}
use Rattle.proof_nodes.proofs.TableLaws.{keys-kept, nodes-kept}
use Rattle.proof_nodes.proofs.Tasks.{if_err, on_err}
use Rattle.proof_nodes.proofs.nodes.node_over.Goals as goal

pub returns-in_err-chain-clause-keys : goal.returns-in_err-chain-clause-keys
returns-in_err-chain-clause-keys c =
    keys-kept c.args.links.now.keys c.chain_of.new.links.keys c.args.keys.now.keys
    c.chain_of.ensures.kept c.requires.keys

pub returns-in_err-chain-clause-gains : goal.returns-in_err-chain-clause-gains
returns-in_err-chain-clause-gains c =
    (links_only c.args.links.now.keys c.chain_of.new.links.keys c.args.keys.now.keys
    c.args.parts.now c.args.label c.requires.keys c.chain_of.ensures.kept).gains

pub returns-clause-keys : goal.returns-clause-keys
returns-clause-keys c =
    (extended c.args.links.now.keys c.chain_of.new.links.keys c.args.keys.now.keys
    c.place_of.new.pairs.keys c.args.label c.in_ok-chain.chain c.args.parts.now c.requires.keys
    c.chain_of.ensures.kept c.in_ok-chain.ensures.chain c.in_ok-chain.ensures.parts
    c.requires.parts c.place_of.ensures.gains).are

pub returns-clause-gains : goal.returns-clause-gains
returns-clause-gains c =
    (extended c.args.links.now.keys c.chain_of.new.links.keys c.args.keys.now.keys
    c.place_of.new.pairs.keys c.args.label c.in_ok-chain.chain c.args.parts.now c.requires.keys
    c.chain_of.ensures.kept c.in_ok-chain.ensures.chain c.in_ok-chain.ensures.parts
    c.requires.parts c.place_of.ensures.gains).gains

pub returns-clause-node : goal.returns-clause-node
returns-clause-node c =
    if_ok c.place_of.result
    (λ n. slice_get c.place_of.new.pairs.keys n ≡ Some (c.args.label, c.in_ok-chain.chain))
    (λ n. slice_get (nodes_of c.chain_of.new.links.keys c.place_of.new.pairs.keys) n
    ≡ Some (c.args.label, c.args.parts.now))
    (λ n is. key-node c.chain_of.new.links.keys c.place_of.new.pairs.keys n
    (c.args.label, c.in_ok-chain.chain) is
    ∙ ap (λ (ns : List ℕ). Some (c.args.label, ns)) c.in_ok-chain.ensures.parts)
    c.place_of.ensures.place

pub returns-in_err-chain-clause-err : goal.returns-in_err-chain-clause-err
returns-in_err-chain-clause-err c =
    if_err c.from_residual.result
    (nodes-kept c.args.links.now.keys c.chain_of.new.links.keys c.args.keys.now.keys
    c.chain_of.ensures.kept (λ i key at. (c.requires.keys i key at).0))

pub returns-clause-err : goal.returns-clause-err
returns-clause-err c =
    on_err c.place_of.result
    (λ same. ap (nodes_of c.chain_of.new.links.keys) same
    ∙ nodes-kept c.args.links.now.keys c.chain_of.new.links.keys c.args.keys.now.keys
    c.chain_of.ensures.kept (λ i key at. (c.requires.keys i key at).0))
    c.place_of.ensures.err
