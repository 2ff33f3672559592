use Rattle.std.proofs.Common.{◌≡◌, ℕ, ◌∷◌, [], ◌++◌, ◌-◌, List, length, subst, sym, ap, ◌∙◌}
use Rattle.std.proofs.Common.{drop, take, Some, arith, rules}
use Rattle.std.specs.Prelude.{slice_get}
use Rattle.proof_nodes.specs.Tables.{Node, Table, AllBelow, KeepsNodes, LabelsBelow, stack_trees}
use Rattle.proof_nodes.specs.Tables.{with_cited}
use Rattle.proof_nodes.specs.TableView.{nodes_of}
use Rattle.proof_nodes.specs.Links.{Gains}
use Rattle.proof_nodes.proofs.Growing.{AllBelow-append, AllBelow-wider}
use Rattle.proof_nodes.proofs.Trees.{length-mapped, AllBelow-take, AllBelow-drop, cited}
use Rattle.proof_nodes.proofs.TableLaws.{keeps_nodes, labels_more, parts-below, parts_taken}
use Rattle.proof_nodes.proofs.TableLaws.{keys_longer}
use Rattle.proof_nodes.proofs.nodes.ProofNodes.cite.Goals as goal

put : (c : goal.After-unwrap)
    → c.push.new.self.items ≡ c.truncate.new.self.items ++ c.in_ok-node.node ∷ []
put c = search rules

stack : (c : goal.After-unwrap) → c.push.new.self.items
    ≡ take (c.len.result - c.args.takes) c.self.inside.stack.items ++ c.in_ok-node.node ∷ []
stack c =
    put c
    ∙ ap (λ (ns : List ℕ). ns ++ c.in_ok-node.node ∷ [])
    (c.truncate.ensures.items ∙ ap (take (c.len.result - c.args.takes)) c.reserve.ensures.items)

pub node_over-requires-clause-parts : goal.node_over-requires-clause-parts
node_over-requires-clause-parts c =
    let below = c.len.result - c.args.takes in
    subst (AllBelow (length c.self.inside.keys.keys))
    (sym (parts_taken c.deref.result.now c.self.inside.stack.items below
    (c.deref.ensures.value ∙ c.reserve.ensures.items)))
    (AllBelow-drop (length c.self.inside.keys.keys) below c.self.inside.stack.items
    c.self.invariant.stack)

pub invariant_of-self-in_err-node : goal.invariant_of-self-in_err-node
invariant_of-self-in_err-node c =
    record {
      links = c.node_over.ensures.links;
      keys = c.node_over.ensures.keys;
      stack =
          subst (AllBelow (length c.node_over.new.keys.keys)) (sym c.reserve.ensures.items)
          (AllBelow-wider (length c.self.inside.keys.keys) (length c.node_over.new.keys.keys)
          c.self.inside.stack.items
          (keys_longer _ c.self.inside.links.keys c.node_over.new.links.keys
          c.self.inside.keys.keys c.node_over.new.keys.keys c.node_over.ensures.gains)
          c.self.invariant.stack);
    }

pub returns-in_err-node-clause-kept : goal.returns-in_err-node-clause-kept
returns-in_err-node-clause-kept c =
    subst (λ (t : Table). KeepsNodes t (
      nodes_of c.node_over.new.links.keys
          c.node_over.new.keys.keys,
      c.self.inside.stack.items,
    )) c.self.view_is
    (keeps_nodes _ (nodes_of c.self.inside.links.keys c.self.inside.keys.keys)
    (nodes_of c.node_over.new.links.keys c.node_over.new.keys.keys) c.self.inside.stack.items
    c.self.inside.stack.items c.node_over.ensures.gains)

pub returns-in_err-node-clause-labels : goal.returns-in_err-node-clause-labels
returns-in_err-node-clause-labels c bound below lt =
    labels_more bound _ (nodes_of c.self.inside.links.keys c.self.inside.keys.keys)
    (nodes_of c.node_over.new.links.keys c.node_over.new.keys.keys) c.node_over.ensures.gains
    (subst (LabelsBelow bound) (sym c.self.view_is) below) lt

pub invariant_of-self : goal.invariant_of-self
invariant_of-self c =
    record {
      links = c.self.invariant.links;
      keys = c.self.invariant.keys;
      stack =
          subst (AllBelow (length c.self.inside.keys.keys)) (sym c.reserve.ensures.items)
          c.self.invariant.stack;
    }

pub invariant_of-self-2 : goal.invariant_of-self-2
invariant_of-self-2 c =
    record {
      links = c.node_over.ensures.links;
      keys = c.node_over.ensures.keys;
      stack =
          subst (AllBelow (length c.node_over.new.keys.keys))
          (sym (stack c))
          (AllBelow-append (length c.node_over.new.keys.keys)
          (take (c.len.result - c.args.takes) c.self.inside.stack.items) (c.in_ok-node.node ∷ [])
          (AllBelow-take (length c.node_over.new.keys.keys) (c.len.result - c.args.takes)
          c.self.inside.stack.items
          (AllBelow-wider (length c.self.inside.keys.keys) (length c.node_over.new.keys.keys)
          c.self.inside.stack.items
          (keys_longer _ c.self.inside.links.keys c.node_over.new.links.keys
          c.self.inside.keys.keys c.node_over.new.keys.keys c.node_over.ensures.gains)
          c.self.invariant.stack))
          (c.in_ok-node.ensures.within, tt));
    }

pub returns-clause-cited : goal.returns-clause-cited
returns-clause-cited c token =
    let below = c.len.result - c.args.takes in
    let held = c.self.inside.stack.items in
    let long : c.len.result ≡ length c.self.inside.stack.items = omega (arith, c.len.ensures) in
    let old = nodes_of c.self.inside.links.keys c.self.inside.keys.keys in
    let new = nodes_of c.node_over.new.links.keys c.node_over.new.keys.keys in
    let parts : take (length c.deref.result.now - below) (drop below c.deref.result.now)
    ≡ drop below c.self.inside.stack.items =
    parts_taken c.deref.result.now c.self.inside.stack.items below
    (c.deref.ensures.value ∙ c.reserve.ensures.items) in
    let gains : Gains {A = Node} (c.args.label, drop below c.self.inside.stack.items)
    (nodes_of c.self.inside.links.keys c.self.inside.keys.keys)
    (nodes_of c.node_over.new.links.keys c.node_over.new.keys.keys) =
    subst (λ (ps : List ℕ). Gains {A = Node} (c.args.label, ps)
    (nodes_of c.self.inside.links.keys c.self.inside.keys.keys)
    (nodes_of c.node_over.new.links.keys c.node_over.new.keys.keys)) parts
    c.node_over.ensures.gains in
    let is : slice_get (nodes_of c.node_over.new.links.keys c.node_over.new.keys.keys)
    c.in_ok-node.node ≡ Some (c.args.label, drop below c.self.inside.stack.items) =
    c.in_ok-node.ensures.node
    ∙ ap (λ (ps : List ℕ). Some (c.args.label, ps)) parts in
    let fits : AllBelow c.in_ok-node.node (drop below c.self.inside.stack.items) =
    parts-below c.node_over.new.links.keys c.node_over.new.keys.keys c.in_ok-node.node _
    c.node_over.ensures.keys is in
    let all : AllBelow (length (nodes_of c.self.inside.links.keys c.self.inside.keys.keys))
    c.self.inside.stack.items =
    subst (λ n. AllBelow n c.self.inside.stack.items)
    (sym (length-mapped _ c.self.inside.keys.keys)) c.self.invariant.stack in
    ap (λ (ns : List ℕ). stack_trees token (
      nodes_of c.node_over.new.links.keys
          c.node_over.new.keys.keys,
      ns,
    ))
    (stack c)
    ∙ cited token c.args.label c.args.takes below c.in_ok-node.node old new held
    (ap (λ n. n - c.args.takes) long) all gains is fits
    ∙ ap (λ (t : Table). with_cited (token c.args.label) c.args.takes (stack_trees token t))
    c.self.view_is

pub returns-clause-kept : goal.returns-clause-kept
returns-clause-kept c =
    subst (λ (t : Table). KeepsNodes t (
      nodes_of c.node_over.new.links.keys
          c.node_over.new.keys.keys,
      c.push.new.self.items,
    )) c.self.view_is
    (keeps_nodes _ (nodes_of c.self.inside.links.keys c.self.inside.keys.keys)
    (nodes_of c.node_over.new.links.keys c.node_over.new.keys.keys) c.self.inside.stack.items
    c.push.new.self.items c.node_over.ensures.gains)

pub returns-clause-labels : goal.returns-clause-labels
returns-clause-labels c bound below lt =
    labels_more bound _ (nodes_of c.self.inside.links.keys c.self.inside.keys.keys)
    (nodes_of c.node_over.new.links.keys c.node_over.new.keys.keys) c.node_over.ensures.gains
    (subst (LabelsBelow bound) (sym c.self.view_is) below) lt
