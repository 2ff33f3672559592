-- Trees in the making. Each number that is handed out is at once a node that tries its rows in
-- order. Such a node is refined, or stays as it is when there is no room for more nodes or enough
-- was tested on the way to it.
use Rattle.std.specs.Prelude.{◌≡◌, ◌+◌, ◌<◌, ◌≤◌, ◌⊎◌, ◌++◌, ℕ, false, List, [], ◌∷◌, length, map}
use Rattle.std.specs.Prelude.{Some, Contains, slice_get}
use Rattle.pat_matrix.specs.Heads.{PlainHead}
use Rattle.pat_matrix.specs.Rows.{Row, some_takes}
use Rattle.pat_matrix.specs.Findings.{AllFit}
use Rattle.pat_matrix.specs.MatrixView.{rows_of, order_of, numbered_rows}
use Rattle.pat_matrix.specs.declared.matrix.Matrix.{Matrix}
use Rattle.match_tree.specs.Labels.{Label}
use Rattle.match_tree.specs.Trails.{Trail, trail_of, source_of}
use Rattle.match_tree.specs.FlatNodes.{PlainNode, try_node, has_head, AllNodes}
use Rattle.match_tree.specs.Joining.{joined}

-- how many nodes a tree may have
abbrev pub most_nodes : ℕ
most_nodes = 100000

-- a place below so many tests is not refined by further tests
abbrev pub most_tested : ℕ
most_tested = 256

-- no head stands twice among these
abbrev pub AreApart : List PlainHead → Type 0
AreApart [] = Unit {0}
AreApart (h ∷ hs) = (has_head hs h ≡ false) × AreApart hs

-- There is no room: so many nodes, the heads that the rows have at one position, and one more are
-- together more than a tree may have. (A hit needs one node more, for no head.)
abbrev pub IsForced : List (ℕ × ℕ) → ℕ → List Row → Type 0
IsForced pairs count rows =
    (position : List ℕ) × (hs : List PlainHead) × AreApart hs
    × ((h : PlainHead) → has_head hs h ≡ some_takes pairs position h rows)
    × (most_nodes < count + length hs + 1)

-- A node may try the rows of its label in order: there is no room, or enough was tested on the way.
abbrev pub MayTry : List (ℕ × ℕ) → ℕ → Label → Type 0
MayTry pairs count l = IsForced pairs count l.rows ⊎ (most_tested ≤ length l.found)

-- the numbers rise
abbrev mutual
  pub AreAbove : ℕ → List ℕ → Type 0
  AreAbove m [] = Unit {0}
  AreAbove m (n ∷ ns) = (m < n) × AreAbove m ns

  pub IsRising : List ℕ → Type 0
  IsRising [] = Unit {0}
  IsRising (n ∷ ns) = AreAbove n ns × IsRising ns

-- what is left to do at a place: the number of the first row that is not done with, the rows that
-- are left, and what was tested
pub record Work : Type 0 where
  pub place : ℕ
  pub from : ℕ
  pub rows : List ℕ
  pub trail : Trail

-- the label says just that, and the rows fit what was found
pub record IsLabelled (m : Matrix) (l : Label) (w : Work) : Type 0 where
  pub from : l.from ≡ w.from
  pub rows : l.rows ≡ numbered_rows m w.rows
  pub trail : trail_of l.found ≡ w.trail
  pub fit : AllFit (order_of m) l.found (numbered_rows m w.rows)
  pub rising : IsRising w.rows

abbrev pub AreWorks : Matrix → (ℕ → Label) → ℕ → List Work → Type 0
AreWorks m labels count [] = Unit {0}
AreWorks m labels count (w ∷ ws) =
    (w.place < count) × IsLabelled m (labels w.place) w × AreWorks m labels count ws

abbrev pub places_of : List Work → List ℕ
places_of ws = map (λ (w : Work). w.place) ws

-- nothing is found at the root, and all rows are left
abbrev pub root_label : Matrix → Label
root_label m = record { from = 0; found = []; rows = rows_of m }

-- Each node is one for its label, and the first one is for all rows. A node tries its rows in order
-- only at these places, or if it may.
pub record IsLabelling (m : Matrix) (labels : ℕ → Label) (nodes : List PlainNode)
    (places : List ℕ) : Type 0 where
  pub root : labels 0 ≡ root_label m
  pub are : AllNodes (order_of m) labels nodes
  pub forced : (k n : ℕ) → slice_get nodes k ≡ Some (try_node n)
      → Contains places k ⊎ MayTry (order_of m) (length nodes) (labels k)

-- The nodes are those of a tree for the matrix, where this is left to do.
abbrev pub IsDraft : Matrix → List PlainNode → List Work → Type 0
IsDraft m nodes ws =
    (labels : ℕ → Label) × IsLabelling m labels nodes (places_of ws)
    × AreWorks m labels (length nodes) ws

-- what is left to do for each branch of a test, from a place on
abbrev pub branch_works : ℕ → ℕ → List ℕ → Trail → List ℕ → List PlainHead → List (List ℕ)
    → List Work
branch_works place from wild trail position [] lists = []
branch_works place from wild trail position (h ∷ hs) [] = []
branch_works place from wild trail position (h ∷ hs) (own ∷ lists) =
    record {
      place = place;
      from = from;
      rows = joined own wild;
      trail = trail ++ (position, source_of (Some h)) ∷ [];
    }
    ∷ branch_works (place + 1) from wild trail position hs lists
