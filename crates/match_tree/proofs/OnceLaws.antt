-- No position is tested twice.
use Rattle.std.proofs.Common.{◌≡◌, ◌<◌, ℕ, zero, suc, List, [], ◌∷◌, ◌++◌, length}
use Rattle.std.proofs.Common.{Option, Some, None, slice_get, Contains, refl, ◌∙◌, ap, subst}
use Rattle.std.proofs.Common.{arith}
use Rattle.std.proofs.lemmas.List.{append-nil}
use Rattle.term_core.specs.Terms as terms
use Rattle.pat_matrix.specs.Heads.{PlainHead}
use Rattle.pat_matrix.specs.MatchTrees.{Findings}
use Rattle.pat_matrix.specs.MatrixView.{rows_of, order_of}
use Rattle.pat_matrix.specs.declared.matrix.Matrix.{Matrix}
use Rattle.match_tree.specs.Labels.{Label}
use Rattle.match_tree.specs.FlatNodes.{PlainNode, end_node, hit_node, test_node, try_node, IsNode}
use Rattle.match_tree.specs.Drafting.{IsLabelling}
use Rattle.match_tree.specs.Walking.{AreWide, Tells}
use Rattle.match_tree.specs.Ways.{Leads, IsWay, test_position, tested}
use Rattle.match_tree.specs.TreeView.{nodes_of, IsTree}
use Rattle.match_tree.specs.SlotView.{AreNew}
use Rattle.match_tree.specs.declared.compiling.Tree.{Tree}
use Rattle.match_tree.proofs.DescentLaws.{found_not_none}
use Rattle.match_tree.proofs.WayLaws.{positions_of, next_place_on, root_tells, rising_rows}

found_there : (found : Findings) (position : List ℕ) → Contains (positions_of found) position
    → (o : Option PlainHead) × Contains found (position, o)
found_there [] position h = absurd (omega (arith, h.1))
found_there (e ∷ found) position (zero, lt, is) =
    (e.1, (0, omega arith, ap (λ (x : List ℕ). (x, e.1)) is))
found_there (e ∷ found) position (suc n, lt, is) =
    let one = found_there found position (n, omega arith, is) in
    (one.0, (suc one.1.0, omega (arith, one.1.1), one.1.2))

new_step : (m : Matrix) (labels : ℕ → Label) (nodes : List PlainNode) (ts : List terms.Tree)
    (k next : ℕ) (later : List (List ℕ)) (o : Option PlainNode)
    → IsLabelling m labels nodes [] → slice_get nodes k ≡ o → Leads ts o next
    → positions_of (labels next).found ≡ positions_of (labels k).found ++ test_position o
    → AreNew ts (positions_of (labels next).found) later
    → AreNew ts (positions_of (labels k).found) (test_position o ++ later)
new_step m labels nodes ts k next later None h at leads found rest = absurd leads
new_step m labels nodes ts k next later (Some end_node) h at leads found rest = absurd leads
new_step m labels nodes ts k next later (Some (try_node from)) h at leads found rest =
    absurd leads
new_step m labels nodes ts k next later (Some (hit_node r spots j)) h at leads found rest =
    let P : List (List ℕ) → Type 0 = λ old. AreNew ts old later in
    subst P (found ∙ append-nil (positions_of (labels k).found)) rest
new_step m labels nodes ts k next later (Some (test_node position hs js other)) h at
    (t, there, is) found rest =
    let P : List (List ℕ) → Type 0 = λ old. AreNew ts old later in (
      found_not_none _ t there,
      λ old. untested (h.are k (test_node position hs js other) at)
          (found_there (labels k).found position old),
      subst P found rest,
    ) where
      untested : IsNode (order_of m) labels (length nodes) k (labels k)
          (test_node position hs js other)
          → ((o : Option PlainHead) × Contains (labels k).found (position, o)) → ⊥
      untested (asks, reached, new, heads, places, lt, within, label) (o, there) = new o there

new_along : (m : Matrix) (labels : ℕ → Label) (nodes : List PlainNode) (ts : List terms.Tree)
    (k : ℕ) (path : List ℕ) (j : ℕ) → IsLabelling m labels nodes [] → k < length nodes
    → Tells (order_of m) (rows_of m) ts (labels k) → IsWay nodes ts k path j
    → AreNew ts (positions_of (labels k).found) (tested nodes path)
new_along m labels nodes ts k [] j h lt tells way = tt
new_along m labels nodes ts k (i ∷ path) j h lt tells (same, next, leads, way) =
    let one = next_place_on m labels nodes ts k next h tells leads in
    let P : ℕ → Type 0 = λ n. AreNew ts (positions_of (labels k).found)
    (test_position (slice_get nodes n) ++ tested nodes path) in
    subst P same
    (new_step m labels nodes ts k next (tested nodes path) (slice_get nodes k) h refl leads
    one.found (new_along m labels nodes ts next path j h one.within one.tells way))

-- the positions that the nodes of a way from the start test are all there, and none comes twice
pub tested_once : (t : Tree) (ts : List terms.Tree) (path : List ℕ) (k : ℕ) → IsTree t
    → AreWide (length ts) (rows_of t.matrix) → IsWay (nodes_of t) ts 0 path k
    → AreNew ts [] (tested (nodes_of t) path)
tested_once t ts path k tree wide way =
    let labels = tree.draft.0 in
    let h = tree.draft.1 in
    let P : List (List ℕ) → Type 0 = λ old. AreNew ts old (tested (nodes_of t) path) in
    subst P (ap (λ (l : Label). positions_of l.found) h.root)
    (new_along t.matrix labels (nodes_of t) ts 0 path k h tree.some
    (root_tells t.matrix labels (nodes_of t) ts h tree.collapsed
    (rising_rows 0 (length (rows_of t.matrix)) (rows_of t.matrix) tree.whole) wide) way)
