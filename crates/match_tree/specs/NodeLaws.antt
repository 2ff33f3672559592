-- Laws of flat nodes.
use Rattle.std.specs.Prelude.{ℕ, ◌+◌, ◌<◌, ◌≤◌, ◌≡◌, ◌++◌, List, length, Some, slice_get}
use Rattle.std.specs.Prelude.{slice_set}
use Rattle.pat_matrix.specs.MatchTrees.{MatchTree, IsMatchTree}
use Rattle.match_tree.specs.Labels.{Label}
use Rattle.match_tree.specs.FlatNodes.{PlainNode, AllNodes, Grows, IsNode}

-- If each node is one for its label, the nodes from each place on are those of a tree for its
-- label.
abbrev pub NodesAreTrees : Type 0
NodesAreTrees =
    (pairs : List (ℕ × ℕ)) (labels : ℕ → Label) (nodes : List PlainNode) (k : ℕ) →
    AllNodes pairs labels nodes → k < length nodes →
    (t : MatchTree) × Grows nodes k t
    × IsMatchTree pairs t (labels k).from (labels k).found (labels k).rows

-- A node stays one for its label when there are more places.
abbrev pub NodesStay : Type 0
NodesStay =
    (pairs : List (ℕ × ℕ)) (old new : ℕ → Label) (few many k : ℕ) (l : Label) (n : PlainNode) →
    few ≤ many → ((j : ℕ) → j < few → new j ≡ old j) → IsNode pairs old few k l n →
    IsNode pairs new many k l n

-- A node may be replaced by another one for its label, with more nodes behind.
abbrev pub NodeIsReplaced : Type 0
NodeIsReplaced =
    (pairs : List (ℕ × ℕ)) (old new : ℕ → Label) (nodes more : List PlainNode) (k : ℕ)
    (n : PlainNode) → k < length nodes → AllNodes pairs old nodes →
    ((j : ℕ) → j < length nodes → new j ≡ old j) →
    IsNode pairs new (length nodes + length more) k (old k) n →
    ((i : ℕ) (m : PlainNode) → slice_get more i ≡ Some m →
    IsNode pairs new (length nodes + length more) (length nodes + i) (new (length nodes + i)) m) →
    AllNodes pairs new (slice_set nodes k n ++ more)
