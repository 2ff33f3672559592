use Rattle.proof_nodes.proofs.Chains.{kept_chains, links_more, next_parts}
use Rattle.proof_nodes.proofs.nodes.next_chain.Goals as goal

pub returns-in_err-place_of-clause-links : goal.returns-in_err-place_of-clause-links
returns-in_err-place_of-clause-links c =
    links_more _ c.args.links.now.keys c.place_of.new.pairs.keys c.requires.links c.requires.within
    c.place_of.ensures.gains

pub returns-in_err-place_of-clause-kept : goal.returns-in_err-place_of-clause-kept
returns-in_err-place_of-clause-kept c =
    kept_chains _ c.args.links.now.keys c.place_of.new.pairs.keys c.place_of.ensures.gains

pub returns-clause-links : goal.returns-clause-links
returns-clause-links c =
    links_more _ c.args.links.now.keys c.place_of.new.pairs.keys c.requires.links c.requires.within
    c.place_of.ensures.gains

pub returns-clause-kept : goal.returns-clause-kept
returns-clause-kept c =
    kept_chains _ c.args.links.now.keys c.place_of.new.pairs.keys c.place_of.ensures.gains

pub returns-clause-parts : goal.returns-clause-parts
returns-clause-parts c =
    next_parts c.args.links.now.keys c.place_of.new.pairs.keys c.args.chain c.args.part
    c.in_ok-place_of.field-0
    (links_more _ c.args.links.now.keys c.place_of.new.pairs.keys c.requires.links
    c.requires.within c.place_of.ensures.gains)
    c.in_ok-place_of.ensures.place
    (kept_chains _ c.args.links.now.keys c.place_of.new.pairs.keys c.place_of.ensures.gains)
    c.requires.within
