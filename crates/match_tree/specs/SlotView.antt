-- What contracts see of `Slots`: the nodes that were passed since the start, and the last hit.
use Rattle.std.specs.Prelude.{◌≡◌, ◌≢◌, ◌≤◌, ◌+◌, ◌++◌, ℕ, true, List, [], ◌∷◌, Option, Some, None}
use Rattle.std.specs.Prelude.{length, is_some, slice_get, vec_capacity, replicate}
use Rattle.std.specs.Prelude.{Contains}
use Rattle.term_core.specs.Terms as terms
use Rattle.term_core.specs.Forests.{forest}
use Rattle.term_core.specs.Instances.{patterns}
use Rattle.term_core.specs.Patterns.{Pattern}
use Rattle.rule_core.specs.MatchSteps.{all_matched}
use Rattle.pat_matrix.specs.MatchTrees.{matching_rows, rows_from, row_match}
use Rattle.pat_matrix.specs.MatrixView.{rows_of, row_of, order_of}
use Rattle.pat_matrix.specs.Positions.{subject_at}
use Rattle.match_tree.specs.FlatNodes.{PlainNode, hit_node, try_node}
use Rattle.match_tree.specs.Spots.{Spot}
use Rattle.match_tree.specs.Ways.{IsWay, tested}
use Rattle.match_tree.specs.Labels.{Label}
use Rattle.match_tree.specs.Drafting.{IsLabelling}
use Rattle.match_tree.specs.TreeView.{nodes_of}
use Rattle.match_tree.specs.declared.compiling.Tree.{Tree}
use Rattle.match_tree.specs.declared.slots.NodeNo.{NodeNo}
use Rattle.match_tree.specs.declared.slots.NodeNo.TheVariants as place
use Rattle.match_tree.specs.declared.slots.Hit.{Hit}
use Rattle.match_tree.specs.declared.slots.Hit.TheVariants as answer
use Rattle.match_tree.specs.declared.slots.Kept.{Kept}
use Rattle.match_tree.specs.declared.slots.Slots.{Slots}

-- there is room for each node of the tree
abbrev pub HasRoom : Tree → Slots → Type 0
HasRoom t slots = length (nodes_of t) ≤ vec_capacity slots.path

-- the way ends at a hit of the row, from which a walk goes on at the place
abbrev pub EndsAtHit : List PlainNode → List ℕ → ℕ → ℕ → Type 0
EndsAtHit nodes path row next =
    (before : List ℕ) × (k : ℕ) × (spots : List (Spot × Spot)) × (path ≡ before ++ k ∷ [])
    × (slice_get nodes k ≡ Some (hit_node row spots next))

-- The walk from the start to the row goes along the kept nodes, and then goes on there: at the next
-- node of the row's hit; or after the row, if a node there tries all rows in order.
abbrev pub LeadsToRow : List PlainNode → List terms.Tree → List ℕ → ℕ → NodeNo → Type 0
LeadsToRow nodes ts path row place.Start = ⊥
LeadsToRow nodes ts path row (place.Node next) =
    IsWay nodes ts 0 path next × EndsAtHit nodes path row next
LeadsToRow nodes ts path row (place.Rows n) =
    (n ≡ row + 1)
    × ((k : ℕ) × (from : ℕ) × IsWay nodes ts 0 path k
    × (slice_get nodes k ≡ Some (try_node from)) × (from ≤ row))

-- the row matches the subjects
abbrev pub RowMatches : Tree → List terms.Tree → ℕ → Type 0
RowMatches t ts row = is_some (row_match (order_of t.matrix) (row_of t.matrix row) ts) ≡ true

abbrev pub FitsHit : Tree → List terms.Tree → List ℕ → Option Kept → Type 0
FitsHit t ts path None = ⊥
FitsHit t ts path (Some kept) =
    LeadsToRow (nodes_of t) ts path kept.row kept.resume × RowMatches t ts kept.row

-- They keep a hit. The tree leads these subjects along the kept nodes from its start to the kept
-- row, which matches them.
abbrev pub Fits : Tree → List terms.Tree → Slots → Type 0
Fits t ts slots = FitsHit t ts slots.path.items slots.hit

-- the place is the one from which a walk goes on after the kept row
abbrev pub IsResume : Option Kept → NodeNo → Type 0
IsResume None from = ⊥
IsResume (Some kept) from = kept.resume ≡ from

-- a walk may begin there: at the start, or after the kept row
abbrev pub CanBegin : Tree → List terms.Tree → Slots → NodeNo → Type 0
CanBegin t ts slots place.Start = Unit {0}
CanBegin t ts slots (place.Node k) = Fits t ts slots × IsResume slots.hit (place.Node k)
CanBegin t ts slots (place.Rows n) = Fits t ts slots × IsResume slots.hit (place.Rows n)

-- the first row that a walk from there may find
abbrev pub after_kept : Option Kept → ℕ
after_kept None = 0
after_kept (Some kept) = kept.row + 1

abbrev pub first_row : Slots → NodeNo → ℕ
first_row slots place.Start = 0
first_row slots (place.Node k) = after_kept slots.hit
first_row slots (place.Rows n) = after_kept slots.hit

-- the nodes that are kept when a walk begins there: none at the start
abbrev pub path_before : Slots → NodeNo → List ℕ
path_before slots place.Start = []
path_before slots (place.Node k) = slots.path.items
path_before slots (place.Rows n) = slots.path.items

-- Of the rows from the first one on, the row is the first that matches; or none of them matches.
abbrev pub FindsFirst : Tree → List terms.Tree → ℕ → Hit → Type 0
FindsFirst t ts from answer.None =
    matching_rows (order_of t.matrix) (rows_from from (rows_of t.matrix)) ts ≡ []
FindsFirst t ts from (answer.Row row resume) =
    matching_rows (order_of t.matrix) (rows_from from (rows_of t.matrix)) ts
    ≡ row ∷ matching_rows (order_of t.matrix) (rows_from (row + 1) (rows_of t.matrix)) ts

-- after a row the slots keep it and fit; else they keep no hit
abbrev pub Keeps : Tree → List terms.Tree → Slots → Hit → Type 0
Keeps t ts slots answer.None = slots.hit ≡ None
Keeps t ts slots (answer.Row row resume) =
    (slots.hit ≡ Some (record { row = row; resume = resume })) × Fits t ts slots

-- the positions that the kept nodes test
abbrev pub kept_positions : Tree → List ℕ → List (List ℕ)
kept_positions t path = tested (nodes_of t) path

-- The row was found by trying all rows from this one on. It matches, and a walk goes on after it.
abbrev pub IsTried : Tree → List terms.Tree → ℕ → Hit → Type 0
IsTried t ts from answer.None = Unit {0}
IsTried t ts from (answer.Row row resume) =
    (resume ≡ place.Rows (row + 1)) × (from ≤ row) × RowMatches t ts row

-- the row was found at the end of the way along these nodes, and matches
abbrev pub IsReachedBy : Tree → List terms.Tree → List ℕ → Hit → Type 0
IsReachedBy t ts path answer.None = Unit {0}
IsReachedBy t ts path (answer.Row row resume) =
    LeadsToRow (nodes_of t) ts path row resume × RowMatches t ts row

-- at this place all rows before the number are done with
abbrev pub StartsFrom : Tree → ℕ → ℕ → Type 0
StartsFrom t k from =
    (labels : ℕ → Label) × IsLabelling t.matrix labels (nodes_of t) []
    × ((labels k).from ≡ from)

-- the subjects have each of these positions, and none of them is among those before it
abbrev pub AreNew : List terms.Tree → List (List ℕ) → List (List ℕ) → Type 0
AreNew ts old [] = Unit {0}
AreNew ts old (position ∷ positions) =
    (subject_at ts position ≢ None) × (Contains old position → ⊥)
    × AreNew ts (old ++ position ∷ []) positions

-- what is kept of a hit
abbrev pub kept_of : Hit → Option Kept
kept_of answer.None = None
kept_of (answer.Row row resume) = Some (record { row = row; resume = resume })

-- they keep a hit of this row
abbrev pub IsKept : Option Kept → ℕ → Type 0
IsKept None row = ⊥
IsKept (Some kept) row = kept.row ≡ row

abbrev pub IsKeptRow : Slots → ℕ → Type 0
IsKeptRow slots row = IsKept slots.hit row

-- the row matches the subjects by this substitution, which has room for so many variables
abbrev pub IsRowMatch : List (ℕ × ℕ) → ℕ → List Pattern → List terms.Tree
    → List (Option terms.Tree) → Type 0
IsRowMatch pairs vars ps ts theta =
    all_matched pairs (patterns ps) (forest ts) (replicate vars None) ≡ Some theta
