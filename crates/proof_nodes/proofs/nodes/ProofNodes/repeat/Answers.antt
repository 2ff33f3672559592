use Rattle.std.proofs.Common.{◌≡◌, ◌∷◌, [], ◌<◌, length, subst, sym, ap, ◌∙◌}
use Rattle.proof_nodes.specs.Tables.{Table, AllBelow}
use Rattle.proof_nodes.proofs.Growing.{AllBelow-append}
use Rattle.proof_nodes.proofs.Trees.{length-mapped}
use Rattle.proof_nodes.proofs.nodes.ProofNodes.repeat.Goals as goal

pub invariant_of-self-2 : goal.invariant_of-self-2
invariant_of-self-2 c =
    let nodes : length c.args.self.now.0 ≡ length c.self.inside.keys.keys =
    ap (λ (t : Table). length t.0) (sym c.self.view_is) ∙ length-mapped _ c.self.inside.keys.keys in
    let below : c.args.node.0 < length c.self.inside.keys.keys =
    subst (λ n. c.args.node.0 < n) nodes c.requires in
    record {
      links = c.self.invariant.links;
      keys = c.self.invariant.keys;
      stack =
          subst (AllBelow (length c.self.inside.keys.keys)) (sym c.in_ok-push.ensures.items)
          (AllBelow-append (length c.self.inside.keys.keys) c.self.inside.stack.items
          (c.args.node.0 ∷ []) c.self.invariant.stack (below, tt));
    }
