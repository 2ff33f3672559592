-- The way of a walk through a tree, for some subjects.
use Rattle.std.specs.Prelude.{◌≡◌, ℕ, List, [], ◌∷◌, ◌++◌, Option, Some, None, slice_get}
use Rattle.std.specs.Option.{unwrap_or}
use Rattle.term_core.specs.Terms.{Tree}
use Rattle.pat_matrix.specs.Heads.{root}
use Rattle.pat_matrix.specs.Positions.{subject_at}
use Rattle.match_tree.specs.FlatNodes.{PlainNode, end_node, hit_node, test_node, try_node}
use Rattle.match_tree.specs.Walking.{find_place}

-- A walk goes on from this node to that place: from a hit to its later rows, and from a test to the
-- place of the head that the subjects have there, or to the place for every other head.
abbrev pub Leads : List Tree → Option PlainNode → ℕ → Type 0
Leads ts None j = ⊥
Leads ts (Some end_node) j = ⊥
Leads ts (Some (hit_node r spots next)) j = next ≡ j
Leads ts (Some (test_node position hs js other)) j =
    (t : Tree) × (subject_at ts position ≡ Some t)
    × (unwrap_or (find_place hs js (root t)) other ≡ j)
Leads ts (Some (try_node from)) j = ⊥

-- a walk passes these nodes, in order, on its way from one place to another
abbrev pub IsWay : List PlainNode → List Tree → ℕ → List ℕ → ℕ → Type 0
IsWay nodes ts k [] j = k ≡ j
IsWay nodes ts k (i ∷ path) j =
    (k ≡ i) × (next : ℕ) × Leads ts (slice_get nodes k) next × IsWay nodes ts next path j

-- the position that a node tests
abbrev pub test_position : Option PlainNode → List (List ℕ)
test_position None = []
test_position (Some end_node) = []
test_position (Some (hit_node r spots next)) = []
test_position (Some (test_node position hs js other)) = position ∷ []
test_position (Some (try_node from)) = []

-- the positions that the nodes of a way test
abbrev pub tested : List PlainNode → List ℕ → List (List ℕ)
tested nodes [] = []
tested nodes (k ∷ path) = test_position (slice_get nodes k) ++ tested nodes path
