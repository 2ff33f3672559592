-- The steps of a walk in code.
use Rattle.std.proofs.Common.{◌≡◌, ◌≢◌, ◌<◌, ◌+◌, ℕ, suc, Bool, true, false, List, []}
use Rattle.std.proofs.Common.{◌∷◌, ◌++◌, length, get_or, Option, Some, None, option_map}
use Rattle.std.proofs.Common.{slice_get, drop, refl, sym, ◌∙◌, ap, subst, arith}
use Rattle.std.specs.Prelude.{is_some, if◌then◌else◌}
use Rattle.std.specs.Option.{unwrap_or}
use Rattle.std.proofs.lemmas.List.{length-map, drop-map}
use Rattle.std.proofs.lemmas.Option.{slice_get-map, slice_get_read}
use Rattle.term_core.specs.Terms as terms
use Rattle.pat_matrix.specs.Heads.{PlainHead, root}
use Rattle.pat_matrix.specs.Positions.{subject_at}
use Rattle.pat_matrix.specs.Rows.{Row, numbers_from}
use Rattle.pat_matrix.specs.declared.matrix.Matrix.{Matrix}
use Rattle.pat_matrix.specs.MatchTrees.{AllCollapsed, matching_rows, rows_from, row_match}
use Rattle.pat_matrix.specs.MatrixView.{rows_of, row_of, order_of, numbered_rows}
use Rattle.match_tree.specs.Labels.{Label}
use Rattle.match_tree.specs.Spots.{Spot, spots_agree, AreSpotsThere}
use Rattle.match_tree.specs.FlatNodes.{PlainNode, end_node, hit_node, test_node, try_node}
use Rattle.match_tree.specs.FlatNodes.{AreBranchPlaces, IsNode}
use Rattle.match_tree.specs.Drafting.{IsLabelling}
use Rattle.match_tree.specs.NodeView.{plain_node, plain_nodes}
use Rattle.match_tree.specs.TreeView.{nodes_of, IsTree}
use Rattle.match_tree.specs.Walking.{AreWide, Tells, find_place}
use Rattle.match_tree.specs.Ways.{Leads, IsWay}
use Rattle.match_tree.specs.SlotView.{StartsFrom, FindsFirst}
use Rattle.match_tree.specs.declared.slots.Hit.{Hit}
use Rattle.match_tree.specs.declared.slots.Hit.TheVariants as answer
use Rattle.match_tree.specs.declared.compiling.Tree.{Tree}
use Rattle.match_tree.specs.declared.nodes.Node.{Node}
use Rattle.match_tree.proofs.HitLaws.{hit_spots}
use Rattle.match_tree.proofs.WalkLaws.{reached_is_there, hit_matches, hit_comes_first}
use Rattle.match_tree.proofs.WalkLaws.{found_place}
use Rattle.match_tree.proofs.OrderLaws.{whole_from}
use Rattle.match_tree.proofs.WayLaws.{IsAt, along, root_tells, rising_rows, way_goes_on}

-- the node at an index of the code
pub plain_at : (nodes : List Node) (k : ℕ) (n : Node) → n ≡ get_or nodes k n → k < length nodes
    → slice_get (plain_nodes nodes) k ≡ Some (plain_node n)
plain_at nodes k n is lt =
    slice_get-map plain_node nodes k
    ∙ ap (option_map plain_node) (slice_get_read nodes (length nodes) k n refl lt is)

-- what holds at the end of a way from the start, for each labelling
pub at_end : (t : Tree) (ts : List terms.Tree) (path : List ℕ) (k : ℕ) (labels : ℕ → Label)
    → IsTree t → AreWide (length ts) (rows_of t.matrix)
    → IsLabelling t.matrix labels (nodes_of t) [] → IsWay (nodes_of t) ts 0 path k
    → IsAt t.matrix labels (nodes_of t) ts 0 path k
at_end t ts path k labels tree wide h way =
    along t.matrix labels (nodes_of t) ts 0 path k h tree.some
    (root_tells t.matrix labels (nodes_of t) ts h tree.collapsed
    (rising_rows 0 (length (rows_of t.matrix)) (rows_of t.matrix) tree.whole) wide)
    way

pub at_tree : (t : Tree) (ts : List terms.Tree) (path : List ℕ) (k : ℕ) (tree : IsTree t)
    → AreWide (length ts) (rows_of t.matrix) → IsWay (nodes_of t) ts 0 path k
    → IsAt t.matrix tree.draft.0 (nodes_of t) ts 0 path k
at_tree t ts path k tree wide way =
    at_end t ts path k tree.draft.0 tree wide tree.draft.1 way

-- so the node is there, and there is room to pass it
pub node_within : (t : Tree) (ts : List terms.Tree) (path : List ℕ) (k : ℕ) → IsTree t
    → AreWide (length ts) (rows_of t.matrix) → IsWay (nodes_of t) ts 0 path k
    → (k < length t.nodes.items) × (length path < length (nodes_of t))
node_within t ts path k tree wide way =
    let at = at_tree t ts path k tree wide way in (
      omega (arith, at.within, length-map t.nodes.items plain_node),
      omega (arith, at.far, at.within),
    )

-- ---- a test

branches_count : (pairs : List (ℕ × ℕ)) (labels : ℕ → Label) (count k : ℕ) (position : List ℕ)
    (l : Label) (hs : List PlainHead) (js : List ℕ)
    → AreBranchPlaces pairs labels count k position l hs js → length js ≡ length hs
branches_count pairs labels count k position l [] [] h = refl
branches_count pairs labels count k position l [] (j ∷ js) h = absurd h
branches_count pairs labels count k position l (g ∷ hs) [] h = absurd h
branches_count pairs labels count k position l (g ∷ hs) (j ∷ js) h =
    ap suc (branches_count pairs labels count k position l hs js h.4)

-- the subjects have the position, and each head has a place
pub test_there : (t : Tree) (ts : List terms.Tree) (path : List ℕ) (k : ℕ) (position : List ℕ)
    (hs : List PlainHead) (js : List ℕ) (other : ℕ) → IsTree t
    → AreWide (length ts) (rows_of t.matrix) → IsWay (nodes_of t) ts 0 path k
    → slice_get (nodes_of t) k ≡ Some (test_node position hs js other)
    → ((u : terms.Tree) × (subject_at ts position ≡ Some u)) × (length js ≡ length hs)
test_there t ts path k position hs js other tree wide way node =
    let at = at_tree t ts path k tree wide way in
    told (tree.draft.1.are k (test_node position hs js other) node) at.tells where
      told : IsNode (order_of t.matrix) tree.draft.0 (length (nodes_of t)) k (tree.draft.0 k)
          (test_node position hs js other)
          → Tells (order_of t.matrix) (rows_of t.matrix) ts (tree.draft.0 k)
          → ((u : terms.Tree) × (subject_at ts position ≡ Some u)) × (length js ≡ length hs)
      told (asks, reached, new, heads, places, lt, within, label) tells = (
        reached_is_there ts (tree.draft.0 k).found (tree.draft.0 k).rows position tells.true_of
            tells.wide asks reached,
        branches_count (order_of t.matrix) tree.draft.0 (length (nodes_of t)) k position
            (tree.draft.0 k) hs js places,
      )

pub found_not_none : (o : Option terms.Tree) (u : terms.Tree) → o ≡ Some u → o ≢ None
found_not_none o u is none =
    let no : Some u ≡ None = sym is ∙ none in let never : ⊥ = cc in never

-- ---- a hit

-- what is known at a hit: the spots are there, and if they agree, the row is the first that matches
pub record IsHitAt (t : Tree) (ts : List terms.Tree) (labels : ℕ → Label) (k row next : ℕ)
    (spots : List (Spot × Spot)) : Type 0 where
  pub there : AreSpotsThere ts spots
  pub first : (b : Bool) → spots_agree ts spots ≡ b
      → matching_rows (order_of t.matrix) (rows_from (labels k).from (rows_of t.matrix)) ts
      ≡ (if b then row
      ∷ matching_rows (order_of t.matrix) (rows_from (row + 1) (rows_of t.matrix)) ts
      else matching_rows (order_of t.matrix) (rows_from (row + 1) (rows_of t.matrix)) ts)
  pub later : (labels next).from ≡ row + 1

pub hit_at : (t : Tree) (ts : List terms.Tree) (path : List ℕ) (k row next : ℕ)
    (spots : List (Spot × Spot)) (labels : ℕ → Label) → IsTree t
    → AreWide (length ts) (rows_of t.matrix) → IsLabelling t.matrix labels (nodes_of t) []
    → IsWay (nodes_of t) ts 0 path k
    → slice_get (nodes_of t) k ≡ Some (hit_node row spots next)
    → IsHitAt t ts labels k row next spots
hit_at t ts path k row next spots labels tree wide h way node =
    told (h.are k (hit_node row spots next) node) (at_end t ts path k labels tree wide h way).tells
  where
    told : IsNode (order_of t.matrix) labels (length (nodes_of t)) k (labels k)
        (hit_node row spots next)
        → Tells (order_of t.matrix) (rows_of t.matrix) ts (labels k)
        → IsHitAt t ts labels k row next spots
    told (ps, rest, is, found, own, lt, within, label) tells =
        let A : List Row → Type 0 = AllCollapsed in
        let B : List Row → Type 0 = AreWide (length ts) in
        let S : List (Spot × Spot) → Type 0 = AreSpotsThere ts in
        let collapsed : AllCollapsed ((row, ps) ∷ rest) = subst A is tells.collapsed in
        let many : AreWide (length ts) ((row, ps) ∷ rest) = subst B is tells.wide in
        let both = hit_spots (order_of t.matrix) ts (labels k).found ps tells.true_of found
        collapsed.0 many.0 in record {
          there = subst S (sym own) both.0;
          first = λ b agree. hit_comes_first (order_of t.matrix) (rows_of t.matrix) ts (labels k)
              row ps rest b tells is
              (hit_matches (order_of t.matrix) (rows_of t.matrix) ts (labels k) row ps rest tells
              is found
              ∙ sym both.1 ∙ ap (spots_agree ts) (sym own) ∙ agree);
          later = ap (λ (l : Label). l.from) label;
        }

-- ---- going on

-- the rows that may match after a place are those that might before
abbrev pub GoesOn : Tree → List terms.Tree → ℕ → ℕ → Type 0
GoesOn t ts from k =
    (n : ℕ) × StartsFrom t k n
    × (matching_rows (order_of t.matrix) (rows_from from (rows_of t.matrix)) ts
    ≡ matching_rows (order_of t.matrix) (rows_from n (rows_of t.matrix)) ts)

from_as : (t : Tree) (ts : List terms.Tree) (a b : ℕ) → a ≡ b
    → matching_rows (order_of t.matrix) (rows_from a (rows_of t.matrix)) ts
    ≡ matching_rows (order_of t.matrix) (rows_from b (rows_of t.matrix)) ts
from_as t ts a b is =
    ap (λ (n : ℕ). matching_rows (order_of t.matrix) (rows_from n (rows_of t.matrix)) ts) is

-- over a hit of which the row does not match
pub over_hit : (t : Tree) (ts : List terms.Tree) (path : List ℕ) (from k row next : ℕ)
    (spots : List (Spot × Spot)) → IsTree t → AreWide (length ts) (rows_of t.matrix)
    → IsWay (nodes_of t) ts 0 path k → slice_get (nodes_of t) k ≡ Some (hit_node row spots next)
    → spots_agree ts spots ≡ false → GoesOn t ts from k → GoesOn t ts from next
over_hit t ts path from k row next spots tree wide way node disagree (n, (labels, h, at), same) =
    let hit = hit_at t ts path k row next spots labels tree wide h way node in (
      row + 1,
      (labels, h, hit.later),
      same ∙ from_as t ts n (labels k).from (sym at) ∙ hit.first false disagree,
    )

-- at a hit of which the row matches
pub at_hit : (t : Tree) (ts : List terms.Tree) (path : List ℕ) (from k row next : ℕ)
    (spots : List (Spot × Spot)) → IsTree t → AreWide (length ts) (rows_of t.matrix)
    → IsWay (nodes_of t) ts 0 path k → slice_get (nodes_of t) k ≡ Some (hit_node row spots next)
    → spots_agree ts spots ≡ true → GoesOn t ts from k
    → matching_rows (order_of t.matrix) (rows_from from (rows_of t.matrix)) ts
    ≡ row ∷ matching_rows (order_of t.matrix) (rows_from (row + 1) (rows_of t.matrix)) ts
at_hit t ts path from k row next spots tree wide way node agree (n, (labels, h, at), same) =
    let hit = hit_at t ts path k row next spots labels tree wide h way node in
    same ∙ from_as t ts n (labels k).from (sym at) ∙ hit.first true agree

-- over a test
test_from : (pairs : List (ℕ × ℕ)) (labels : ℕ → Label) (count k : ℕ) (position : List ℕ)
    (hs : List PlainHead) (js : List ℕ) (other : ℕ) (g : PlainHead) (o : Option ℕ)
    → IsNode pairs labels count k (labels k) (test_node position hs js other)
    → find_place hs js g ≡ o → (labels (unwrap_or o other)).from ≡ (labels k).from
test_from pairs labels count k position hs js other g (Some j)
    (asks, reached, new, heads, places, lt, within, label) is =
    ap (λ (l : Label). l.from)
    (found_place pairs labels count k position (labels k) hs js g j places is).2
test_from pairs labels count k position hs js other g None
    (asks, reached, new, heads, places, lt, within, label) is =
    ap (λ (l : Label). l.from) label

pub over_test : (t : Tree) (ts : List terms.Tree) (from k next : ℕ) (position : List ℕ)
    (hs : List PlainHead) (js : List ℕ) (other : ℕ) (u : terms.Tree)
    → slice_get (nodes_of t) k ≡ Some (test_node position hs js other)
    → unwrap_or (find_place hs js (root u)) other ≡ next → GoesOn t ts from k
    → GoesOn t ts from next
over_test t ts from k next position hs js other u node is (n, (labels, h, at), same) =
    let P : ℕ → Type 0 = λ j. (labels j).from ≡ (labels k).from in
    let own : (labels next).from ≡ (labels k).from =
    subst P is
    (test_from (order_of t.matrix) labels (length (nodes_of t)) k position hs js other (root u) _
    (h.are k (test_node position hs js other) node) refl) in
    (n, (labels, h, own ∙ at), same)

-- at an end
pub at_no_row : (t : Tree) (ts : List terms.Tree) (path : List ℕ) (from k : ℕ) → IsTree t
    → AreWide (length ts) (rows_of t.matrix) → IsWay (nodes_of t) ts 0 path k
    → slice_get (nodes_of t) k ≡ Some end_node → GoesOn t ts from k
    → matching_rows (order_of t.matrix) (rows_from from (rows_of t.matrix)) ts ≡ []
at_no_row t ts path from k tree wide way node (n, (labels, h, at), same) =
    same ∙ from_as t ts n (labels k).from (sym at)
    ∙ (at_end t ts path k labels tree wide h way).tells.same
    ∙ ap (λ (rs : List Row). matching_rows (order_of t.matrix) rs ts) (h.are k end_node node)

-- at a node that tries its rows in order
pub at_try : (t : Tree) (ts : List terms.Tree) (from k first : ℕ)
    → slice_get (nodes_of t) k ≡ Some (try_node first) → GoesOn t ts from k
    → matching_rows (order_of t.matrix) (rows_from from (rows_of t.matrix)) ts
    ≡ matching_rows (order_of t.matrix) (rows_from first (rows_of t.matrix)) ts
at_try t ts from k first node (n, (labels, h, at), same) =
    same ∙ from_as t ts n first (sym at ∙ sym (h.are k (try_node first) node))

pub finds_from : (t : Tree) (ts : List terms.Tree) (a b : ℕ) (hit : Hit)
    → matching_rows (order_of t.matrix) (rows_from a (rows_of t.matrix)) ts
    ≡ matching_rows (order_of t.matrix) (rows_from b (rows_of t.matrix)) ts
    → FindsFirst t ts b hit → FindsFirst t ts a hit
finds_from t ts a b answer.None same finds = same ∙ finds
finds_from t ts a b (answer.Row row resume) same finds = same ∙ finds

-- the first row that matches does
matches_first : (m : Matrix) (ts : List terms.Tree) (ns rest : List ℕ) (row : ℕ)
    → matching_rows (order_of m) (numbered_rows m ns) ts ≡ row ∷ rest
    → is_some (row_match (order_of m) (row_of m row) ts) ≡ true
matches_first m ts [] rest row e = absurd (let no : ⊥ = cc in no)
matches_first m ts (n ∷ ns) rest row e =
    told (is_some (row_match (order_of m) (row_of m n) ts)) refl e
    (matches_first m ts ns rest row) where
      told : (b : Bool) → is_some (row_match (order_of m) (row_of m n) ts) ≡ b
          → (if b then n ∷ matching_rows (order_of m) (numbered_rows m ns) ts
          else matching_rows (order_of m) (numbered_rows m ns) ts) ≡ row ∷ rest
          → (matching_rows (order_of m) (numbered_rows m ns) ts ≡ row ∷ rest
          → is_some (row_match (order_of m) (row_of m row) ts) ≡ true)
          → is_some (row_match (order_of m) (row_of m row) ts) ≡ true
      told true is same later =
          let own : n ≡ row = cc in
          ap (λ (i : ℕ). is_some (row_match (order_of m) (row_of m i) ts)) (sym own) ∙ is
      told false is same later = later same

pub first_matches : (t : Tree) (ts : List terms.Tree) (from row : ℕ) (rest : List ℕ) → IsTree t
    → matching_rows (order_of t.matrix) (rows_from from (rows_of t.matrix)) ts ≡ row ∷ rest
    → is_some (row_match (order_of t.matrix) (row_of t.matrix row) ts) ≡ true
first_matches t ts from row rest tree e =
    let n : ℕ = length (rows_of t.matrix) in
    matches_first t.matrix ts (drop from (numbers_from 0 n)) rest row
    (ap (λ (rs : List Row). matching_rows (order_of t.matrix) rs ts)
    (sym (drop-map (λ (i : ℕ). (i, row_of t.matrix i)) from (numbers_from 0 n))
    ∙ sym (whole_from t.matrix from tree.whole))
    ∙ e)

-- ---- ways in code

pub way_over : (nodes : List PlainNode) (ts : List terms.Tree) (path : List ℕ) (k next : ℕ)
    (n : PlainNode) → IsWay nodes ts 0 path k → slice_get nodes k ≡ Some n
    → Leads ts (Some n) next → IsWay nodes ts 0 (path ++ k ∷ []) next
way_over nodes ts path k next n way node leads =
    let P : Option PlainNode → Type 0 = λ o. Leads ts o next in
    way_goes_on nodes ts 0 path k next way (subst P (sym node) leads)
