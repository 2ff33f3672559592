-- The plain nodes that represent those of the code.
use Rattle.std.specs.Prelude.{List, map}
use Rattle.pat_matrix.specs.HeadView.{head_of}
use Rattle.match_tree.specs.FlatNodes.{PlainNode, end_node, hit_node, test_node, try_node}
use Rattle.match_tree.specs.SpotView.{plain_spots}
use Rattle.match_tree.specs.declared.nodes.Node.{Node}
use Rattle.match_tree.specs.declared.nodes.Node.TheVariants as form

abbrev pub plain_node : Node → PlainNode
plain_node form.End = end_node
plain_node (form.Hit hit) = hit_node hit.row (plain_spots hit.spots.items) hit.next
plain_node (form.Test test) =
    test_node test.value.position.items (map head_of test.value.heads.keys)
    test.value.branches.items test.value.other
plain_node (form.Try from) = try_node from

abbrev pub plain_nodes : List Node → List PlainNode
plain_nodes nodes = map plain_node nodes
