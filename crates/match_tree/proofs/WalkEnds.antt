-- The ends of a walk.
use Rattle.std.proofs.Common.{◌≡◌, ◌≤◌, ◌+◌, ℕ, List, length, Option}
use Rattle.std.proofs.Common.{Some, None, slice_get, refl, sym, ap, subst, arith}
use Rattle.term_core.specs.Terms as terms
use Rattle.pat_matrix.specs.MatrixView.{order_of}
use Rattle.match_tree.specs.Labels.{Label}
use Rattle.match_tree.specs.Spots.{Spot}
use Rattle.match_tree.specs.FlatNodes.{hit_node, IsNode}
use Rattle.match_tree.specs.TreeView.{nodes_of, IsTree}
use Rattle.match_tree.specs.SlotView.{LeadsToRow, FitsHit, Fits, IsResume, after_kept}
use Rattle.match_tree.specs.SlotView.{Keeps, IsReachedBy}
use Rattle.match_tree.specs.SlotView.{StartsFrom, IsTried, kept_of}
use Rattle.match_tree.specs.declared.compiling.Tree.{Tree}
use Rattle.match_tree.specs.declared.slots.NodeNo.{NodeNo}
use Rattle.match_tree.specs.declared.slots.Hit.{Hit}
use Rattle.match_tree.specs.declared.slots.Hit.TheVariants as answer
use Rattle.match_tree.specs.declared.slots.Kept.{Kept}
use Rattle.match_tree.specs.declared.slots.Slots.{Slots}

-- the start is done with no row
pub start_is : (t : Tree) → IsTree t → StartsFrom t 0 0
start_is t tree =
    (tree.draft.0, tree.draft.1, ap (λ (l : Label). l.from) tree.draft.1.root)

-- after a hit was kept
pub keeps_by : (t : Tree) (ts : List terms.Tree) (slots : Slots) (path : List ℕ)
    (hit given : Hit) → given ≡ hit → slots.hit ≡ kept_of hit → slots.path.items ≡ path
    → IsReachedBy t ts path hit → Keeps t ts slots given
keeps_by t ts slots path hit given same kept is reached =
    let P : Hit → Type 0 = Keeps t ts slots in
    subst P (sym same) (told hit kept reached) where
      told : (h : Hit) → slots.hit ≡ kept_of h → IsReachedBy t ts path h → Keeps t ts slots h
      told answer.None e r = e
      told (answer.Row row resume) e r =
          let Q : Option Kept → Type 0 = λ o. FitsHit t ts slots.path.items o in
          let R : List ℕ → Type 0 =
          λ p. FitsHit t ts p (Some (record { row = row; resume = resume })) in
          (e, subst Q (sym e) (subst R (sym is) r))

resumed : (t : Tree) (ts : List terms.Tree) (path : List ℕ) (o : Option Kept) (from : NodeNo)
    → FitsHit t ts path o → IsResume o from
    → (row : ℕ) × LeadsToRow (nodes_of t) ts path row from × (after_kept o ≡ row + 1)
resumed t ts path None from fits is = absurd fits
resumed t ts path (Some kept) from fits is =
    let P : NodeNo → Type 0 = LeadsToRow (nodes_of t) ts path kept.row in
    (kept.row, subst P is fits.0, refl)

pub resumed_at : (t : Tree) (ts : List terms.Tree) (slots : Slots) (from : NodeNo)
    → Fits t ts slots → IsResume slots.hit from
    → (row : ℕ) × LeadsToRow (nodes_of t) ts slots.path.items row from
    × (after_kept slots.hit ≡ row + 1)
resumed_at t ts slots from fits is = resumed t ts slots.path.items slots.hit from fits is

-- after a hit the later rows are left
pub hit_starts : (t : Tree) (k row next : ℕ) (spots : List (Spot × Spot)) → IsTree t
    → slice_get (nodes_of t) k ≡ Some (hit_node row spots next) → StartsFrom t next (row + 1)
hit_starts t k row next spots tree node =
    (tree.draft.0, tree.draft.1, told (tree.draft.1.are k (hit_node row spots next) node)) where
      told : IsNode (order_of t.matrix) tree.draft.0 (length (nodes_of t)) k (tree.draft.0 k)
          (hit_node row spots next) → (tree.draft.0 next).from ≡ row + 1
      told (ps, later, is, found, own, lt, within, label) = ap (λ (l : Label). l.from) label

pub tried_lower : (t : Tree) (ts : List terms.Tree) (low high : ℕ) (hit : Hit) → low ≤ high
    → IsTried t ts high hit → IsTried t ts low hit
tried_lower t ts low high answer.None le tried = tt
tried_lower t ts low high (answer.Row row resume) le (is, past, matches) =
    (is, omega arith, matches)
