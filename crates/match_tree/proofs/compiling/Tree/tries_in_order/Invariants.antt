use Rattle.std.proofs.Common.{◌≡◌, drop}
use Rattle.std.specs.List.{list_any}
use Rattle.match_tree.specs.NodeView.{plain_nodes}
use Rattle.match_tree.specs.TreeView.{nodes_of, tries}
use Rattle.match_tree.proofs.compiling.Tree.tries_in_order.Given as goal

abbrev pub invariant-loop-node : goal.invariant-loop-node
invariant-loop-node l =
    list_any tries (plain_nodes (drop l.node-index l.self.nodes.items))
    ≡ list_any tries (nodes_of l.self)
