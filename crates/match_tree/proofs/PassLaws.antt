-- How a walk passes nodes, and notes them.
use Rattle.std.proofs.Common.{◌≡◌, ◌+◌, ℕ, false, true, List, [], ◌∷◌, ◌++◌, length, Option, Some}
use Rattle.std.proofs.Common.{get_or, slice_get, sym, ◌∙◌, ap, subst, arith}
use Rattle.std.specs.List.{list_any}
use Rattle.std.proofs.lemmas.Bool.{false≢true}
use Rattle.std.proofs.lemmas.List.{append_assoc, append-nil, length-append}
use Rattle.term_core.specs.Terms as terms
use Rattle.pat_matrix.specs.MatrixView.{rows_of}
use Rattle.match_tree.specs.FlatNodes.{PlainNode}
use Rattle.match_tree.specs.NodeView.{plain_node}
use Rattle.match_tree.specs.Walking.{AreWide}
use Rattle.match_tree.specs.Ways.{Leads, IsWay, test_position, tested}
use Rattle.match_tree.specs.TreeView.{nodes_of, tries, IsTree}
use Rattle.match_tree.specs.SlotView.{IsReachedBy, kept_positions}
use Rattle.match_tree.specs.Passing.{Passes, Reaches}
use Rattle.match_tree.specs.declared.compiling.Tree.{Tree}
use Rattle.match_tree.specs.declared.slots.Hit.{Hit}
use Rattle.match_tree.specs.declared.nodes.Node.{Node}
use Rattle.match_tree.proofs.WayLaws.{tested-append}
use Rattle.match_tree.proofs.DescentLaws.{node_within, plain_at, way_over}

-- the node at the end of a way
pub node_is : (t : Tree) (ts : List terms.Tree) (path : List ℕ) (k : ℕ) (n m : Node) → IsTree t
    → AreWide (length ts) (rows_of t.matrix) → IsWay (nodes_of t) ts 0 path k
    → n ≡ get_or t.nodes.items k n → n ≡ m → slice_get (nodes_of t) k ≡ Some (plain_node m)
node_is t ts path k n m tree wide way at is =
    plain_at t.nodes.items k n at (node_within t ts path k tree wide way).0
    ∙ ap (λ (o : Node). Some (plain_node o)) is

-- before the first node
pub passes_none : (t : Tree) (ts : List terms.Tree) (before : List ℕ → Type 0) (steps place : ℕ)
    (path : List ℕ) → before path → IsWay (nodes_of t) ts 0 path place
    → Passes t ts before before steps steps place
passes_none t ts before steps place path noted way =
    let whole : path ++ [] ≡ path = append-nil path in
    let W : List ℕ → Type 0 = λ p. IsWay (nodes_of t) ts 0 p place in record {
      path = path;
      more = [];
      noted = noted;
      notes = subst before (sym whole) noted;
      way = subst W (sym whole) way;
      looks = λ none. ap (λ (p : List ℕ). steps + length (kept_positions t p)) (sym whole);
    }

-- over a node
abbrev pub passes_on : (t : Tree) (ts : List terms.Tree) (before after later : List ℕ → Type 0)
    (old new steps place next : ℕ) (n : PlainNode) → Passes t ts before after old new place
    → slice_get (nodes_of t) place ≡ Some n → Leads ts (Some n) next
    → ((path : List ℕ) → after path → later (path ++ place ∷ []))
    → steps ≡ new + length (test_position (Some n)) → Passes t ts before later old steps next
passes_on t ts before after later old new steps place next n p node leads notes looks =
    let whole : (p.path ++ p.more) ++ place ∷ [] ≡ p.path ++ (p.more ++ place ∷ []) =
    append_assoc p.path p.more (place ∷ []) in
    let W : List ℕ → Type 0 = λ q. IsWay (nodes_of t) ts 0 q next in
    let count : length (kept_positions t (p.path ++ (p.more ++ place ∷ [])))
    ≡ length (kept_positions t (p.path ++ p.more)) + length (test_position (Some n)) =
    ap (λ (q : List ℕ). length (kept_positions t q)) (sym whole)
    ∙ ap length (tested-append (nodes_of t) (p.path ++ p.more) place
    ∙ ap (λ (o : Option PlainNode). tested (nodes_of t) (p.path ++ p.more) ++ test_position o)
    node)
    ∙ length-append (tested (nodes_of t) (p.path ++ p.more)) (test_position (Some n)) in record {
      path = p.path;
      more = p.more ++ place ∷ [];
      noted = p.noted;
      notes = subst later whole (notes (p.path ++ p.more) p.notes);
      way = subst W whole
          (way_over (nodes_of t) ts (p.path ++ p.more) place next n p.way node leads);
      looks = λ none. omega (arith, p.looks none, looks, count);
    }

-- at a node that tries its rows in order
abbrev pub passes_tried : (t : Tree) (ts : List terms.Tree) (before after : List ℕ → Type 0)
    (old new steps place : ℕ) → Passes t ts before after old new place
    → list_any tries (nodes_of t) ≡ true → Passes t ts before after old steps place
passes_tried t ts before after old new steps place p tried = record {
  path = p.path;
  more = p.more;
  noted = p.noted;
  notes = p.notes;
  way = p.way;
  looks = λ none. absurd (false≢true (sym none ∙ tried));
}

-- ---- what slots note

-- a walk that found a hit, or none, at the end of the noted nodes, of which it passed some
pub record Extends (t : Tree) (ts : List terms.Tree) (old new : List ℕ) (before after : ℕ)
    (hit : Hit) : Type 0
  where
    pub leads : IsReachedBy t ts new hit
    pub way : (last : ℕ) × IsWay (nodes_of t) ts 0 new last
    pub looks : list_any tries (nodes_of t) ≡ false
        → after + length (kept_positions t old) ≡ before + length (kept_positions t new)
    pub more : (more : List ℕ) × (new ≡ old ++ more)

pub extends : (t : Tree) (ts : List terms.Tree) (old new : List ℕ) (before after : ℕ) (hit : Hit)
    → Reaches t ts (λ path. old ≡ path) (λ path. new ≡ path) before after hit
    → Extends t ts old new before after hit
extends t ts old new before after hit (place, passed, reached) =
    let R : List ℕ → Type 0 = λ p. IsReachedBy t ts p hit in
    let W : List ℕ → Type 0 = λ p. IsWay (nodes_of t) ts 0 p place in record {
      leads = subst R (sym passed.notes) reached;
      way = (place, subst W (sym passed.notes) passed.way);
      looks = λ none.
          ap (λ (p : List ℕ). after + length (kept_positions t p)) passed.noted
          ∙ passed.looks none
          ∙ ap (λ (p : List ℕ). before + length (kept_positions t p)) (sym passed.notes);
      more = (
        passed.more,
        passed.notes ∙ ap (λ (p : List ℕ). p ++ passed.more) (sym passed.noted),
      );
    }
