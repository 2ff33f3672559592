-- What contracts see of a `Tree`.
use Rattle.std.specs.Prelude.{◌≡◌, ◌≤◌, ◌<◌, Bool, true, false, List, [], length, map}
use Rattle.pat_matrix.specs.Rows.{Row, numbers_from}
use Rattle.pat_matrix.specs.MatchTrees.{MatchTree, IsMatchTree, AllCollapsed}
use Rattle.pat_matrix.specs.Occurrences.{row_twins}
use Rattle.pat_matrix.specs.PlaceView.{twins_of}
use Rattle.pat_matrix.specs.MatrixView.{rows_of, order_of}
use Rattle.pat_matrix.specs.declared.places.Twin.{Twin}
use Rattle.std.specs.Global.{Vec}
use Rattle.match_tree.specs.FlatNodes.{PlainNode, end_node, hit_node, test_node, try_node, Grows}
use Rattle.match_tree.specs.Drafting.{IsDraft, most_nodes}
use Rattle.match_tree.specs.NodeView.{plain_nodes}
use Rattle.match_tree.specs.declared.compiling.Tree.{Tree}

abbrev pub nodes_of : Tree → List PlainNode
nodes_of t = plain_nodes t.nodes.items

-- the node tries its rows in order
abbrev pub tries : PlainNode → Bool
tries end_node = false
tries (hit_node r spots j) = false
tries (test_node position hs js j) = false
tries (try_node k) = true

-- The nodes are those of a matching tree for the rows.
abbrev pub HasMatchTree : Tree → Type 0
HasMatchTree t =
    (u : MatchTree) × Grows (nodes_of t) 0 u
    × IsMatchTree (order_of t.matrix) u 0 [] (rows_of t.matrix)

-- Each node is one for what is left to do there, and the first one is for all rows. A node tries
-- its rows in order only if there is no room for more nodes, of which there are not too many, or if
-- enough was tested on the way. Each row has its own twins, and no nested injections.
pub record IsTree (t : Tree) : Type 0 where
  pub draft : IsDraft t.matrix (nodes_of t) []
  pub some : 0 < length (nodes_of t)
  pub few : length (nodes_of t) ≤ most_nodes
  pub whole : map (λ (r : Row). r.0) (rows_of t.matrix)
      ≡ numbers_from 0 (length (rows_of t.matrix))
  pub collapsed : AllCollapsed (rows_of t.matrix)
  pub twins : map (λ (v : Vec Twin). twins_of v.items) t.twins.items
      ≡ map (λ (r : Row). row_twins r.1) (rows_of t.matrix)
