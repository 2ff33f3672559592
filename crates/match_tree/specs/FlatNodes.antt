-- Trees as flat lists of nodes. A node names its children by their places in the list, which come
-- after its own. Each place has a label: what is left to do there.
use Rattle.std.specs.Prelude.{◌≡◌, ◌+◌, ◌<◌, ℕ, Bool, true, false, List, [], ◌∷◌, ◌++◌, length}
use Rattle.std.specs.Prelude.{Option, Some, None, Contains, slice_get}
use Rattle.std.specs.List.{list_any}
use Rattle.term_core.specs.Patterns.{Pattern}
use Rattle.pat_matrix.specs.Heads.{PlainHead, head_eq}
use Rattle.pat_matrix.specs.Rows.{Row, specialized, others, some_takes}
use Rattle.pat_matrix.specs.MatchTrees.{MatchTree, end, hit, test, in_order, Branches, no_branch}
use Rattle.pat_matrix.specs.Occurrences.{row_twins}
use Rattle.match_tree.specs.Labels.{Label}
use Rattle.match_tree.specs.Trails.{trail_of}
use Rattle.match_tree.specs.Spots.{Spot, spots_of}
use Rattle.pat_matrix.specs.MatchTrees.{branch, IsFound, IsReached, some_asks}

-- A node is an end; or a hit, with its row, the spots of the row's twins and the place to go on at;
-- or a test of a position, with
-- heads, a place for each of them, and a place for every other head; or it tries all rows from a
-- number on.
pub data PlainNode : Type 0 where
  end_node : PlainNode
  hit_node : ℕ → List (Spot × Spot) → ℕ → PlainNode
  test_node : List ℕ → List PlainHead → List ℕ → ℕ → PlainNode
  try_node : ℕ → PlainNode

-- the head is one of these
abbrev pub has_head : List PlainHead → PlainHead → Bool
has_head hs k = list_any (λ (h : PlainHead). head_eq h k) hs

-- each head has a later place, with the rows that can match subjects with that head
abbrev pub AreBranchPlaces : List (ℕ × ℕ) → (ℕ → Label) → ℕ → ℕ → List ℕ → Label
    → List PlainHead → List ℕ → Type 0
AreBranchPlaces pairs labels count k position l [] [] = Unit {0}
AreBranchPlaces pairs labels count k position l [] (j ∷ js) = ⊥
AreBranchPlaces pairs labels count k position l (h ∷ hs) [] = ⊥
AreBranchPlaces pairs labels count k position l (h ∷ hs) (j ∷ js) =
    (has_head hs h ≡ false) × (k < j) × (j < count)
    × (labels j ≡ record {
      from = l.from;
      found = l.found ++ (position, Some h) ∷ [];
      rows = specialized pairs position h l.rows;
    })
    × AreBranchPlaces pairs labels count k position l hs js

-- the node is one for its label, when its children are ones for theirs
abbrev pub IsNode : List (ℕ × ℕ) → (ℕ → Label) → ℕ → ℕ → Label → PlainNode → Type 0
IsNode pairs labels count k l end_node = l.rows ≡ []
IsNode pairs labels count k l (hit_node r spots j) =
    (ps : List Pattern) × (later : List Row) × (l.rows ≡ (r, ps) ∷ later)
    × IsFound pairs l.found ps × (spots ≡ spots_of (trail_of l.found) (row_twins ps))
    × (k < j) × (j < count)
    × (labels j ≡ record { from = r + 1; found = l.found; rows = later })
IsNode pairs labels count k l (test_node position hs js other) =
    (some_asks position l.rows ≡ true) × IsReached l.found position
    × ((o : Option PlainHead) → Contains l.found (position, o) → ⊥)
    × ((h : PlainHead) → has_head hs h ≡ some_takes pairs position h l.rows)
    × AreBranchPlaces pairs labels count k position l hs js × (k < other) × (other < count)
    × (labels other ≡ record {
      from = l.from;
      found = l.found ++ (position, None) ∷ [];
      rows = others position l.rows;
    })
IsNode pairs labels count k l (try_node m) = m ≡ l.from

abbrev pub AllNodes : List (ℕ × ℕ) → (ℕ → Label) → List PlainNode → Type 0
AllNodes pairs labels nodes =
    (k : ℕ) (n : PlainNode) → slice_get nodes k ≡ Some n
    → IsNode pairs labels (length nodes) k (labels k) n

-- the nodes from a place on are those of a tree
abbrev mutual
  pub Grows : List PlainNode → ℕ → MatchTree → Type 0
  Grows nodes k end = slice_get nodes k ≡ Some end_node
  Grows nodes k (hit n ps next) =
      (spots : List (Spot × Spot)) × (j : ℕ) × (slice_get nodes k ≡ Some (hit_node n spots j))
      × (k < j) × Grows nodes j next
  Grows nodes k (test position bs other) =
      (hs : List PlainHead) × (js : List ℕ) × (j : ℕ)
      × (slice_get nodes k ≡ Some (test_node position hs js j)) × (k < j)
      × BranchesGrow nodes k hs js bs × Grows nodes j other
  Grows nodes k (in_order m) = slice_get nodes k ≡ Some (try_node m)

  pub BranchesGrow : List PlainNode → ℕ → List PlainHead → List ℕ → Branches → Type 0
  BranchesGrow nodes k hs js no_branch = (hs ≡ []) × (js ≡ [])
  BranchesGrow nodes k hs js (branch h t bs) =
      (more : List PlainHead) × (rest : List ℕ) × (j : ℕ) × (hs ≡ h ∷ more) × (js ≡ j ∷ rest)
      × (k < j) × Grows nodes j t × BranchesGrow nodes k more rest bs
