-- What each node of a walk gives.
use Rattle.std.proofs.Common.{◌≡◌, ◌<◌, ◌+◌, ℕ, zero, suc, Bool, true, false, List, [], ◌∷◌, ◌++◌}
use Rattle.std.proofs.Common.{length, Option, Some, None, option_map, slice_get, refl, sym, ◌∙◌, ap, subst}
use Rattle.std.specs.Prelude.{◌||◌}
use Rattle.std.specs.List.{list_any}
use Rattle.std.proofs.lemmas.List.{length-append, append-nil}
use Rattle.term_core.specs.Terms as terms
use Rattle.pat_matrix.specs.Heads.{PlainHead}
use Rattle.pat_matrix.specs.MatrixView.{rows_of}
use Rattle.match_tree.specs.Spots.{Spot}
use Rattle.match_tree.specs.FlatNodes.{PlainNode, hit_node, test_node, try_node}
use Rattle.pat_matrix.specs.Positions.{subject_at}
use Rattle.match_tree.specs.Walking.{AreWide}
use Rattle.match_tree.specs.TestView.{next_place}
use Rattle.match_tree.specs.Ways.{Leads, IsWay, test_position, tested}
use Rattle.match_tree.specs.declared.testing.Test.{Test}
use Rattle.match_tree.specs.TreeView.{nodes_of, tries, IsTree}
use Rattle.match_tree.specs.SlotView.{LeadsToRow, IsTried, IsReachedBy}
use Rattle.match_tree.specs.declared.compiling.Tree.{Tree}
use Rattle.match_tree.specs.declared.slots.NodeNo.{NodeNo}
use Rattle.match_tree.specs.declared.slots.Hit.{Hit}
use Rattle.match_tree.specs.declared.slots.Hit.TheVariants as answer
use Rattle.match_tree.proofs.WayLaws.{tested-append, next_place_on}
use Rattle.match_tree.proofs.DescentLaws.{at_tree}

or_true : (b : Bool) → (b || true) ≡ true
or_true true = refl
or_true false = refl

-- ---- how many positions are kept

pub looks_none : (nodes : List PlainNode) (path more : List ℕ) (k row next : ℕ)
    (spots : List (Spot × Spot)) → more ≡ path ++ k ∷ []
    → slice_get nodes k ≡ Some (hit_node row spots next)
    → length (tested nodes more) ≡ length (tested nodes path)
looks_none nodes path more k row next spots is node =
    ap (λ (p : List ℕ). length (tested nodes p)) is
    ∙ ap length (tested-append nodes path k
    ∙ ap (λ (o : Option PlainNode). tested nodes path ++ test_position o) node
    ∙ append-nil (tested nodes path))

pub looks_one : (nodes : List PlainNode) (path more : List ℕ) (k : ℕ) (position : List ℕ)
    (hs : List PlainHead) (js : List ℕ) (other : ℕ) → more ≡ path ++ k ∷ []
    → slice_get nodes k ≡ Some (test_node position hs js other)
    → length (tested nodes more) ≡ length (tested nodes path) + 1
looks_one nodes path more k position hs js other is node =
    ap (λ (p : List ℕ). length (tested nodes p)) is
    ∙ ap length (tested-append nodes path k
    ∙ ap (λ (o : Option PlainNode). tested nodes path ++ test_position o) node)
    ∙ length-append (tested nodes path) (position ∷ [])

-- ---- rows that are tried in order

pub some_tries : (nodes : List PlainNode) (k from : ℕ)
    → slice_get nodes k ≡ Some (try_node from) → list_any tries nodes ≡ true
some_tries [] k from at = absurd (let no : ⊥ = cc in no)
some_tries (n ∷ nodes) zero from at =
    let same : n ≡ try_node from = cc in
    ap (λ (m : PlainNode). tries m || list_any tries nodes) same
some_tries (n ∷ nodes) (suc k) from at =
    ap (λ (b : Bool). tries n || b) (some_tries nodes k from at) ∙ or_true (tries n)

-- a row that was found in order is at the end of the way to the node
pub tried_reached : (t : Tree) (ts : List terms.Tree) (path : List ℕ) (k from : ℕ) (hit : Hit)
    → IsWay (nodes_of t) ts 0 path k → slice_get (nodes_of t) k ≡ Some (try_node from)
    → IsTried t ts from hit → IsReachedBy t ts path hit
tried_reached t ts path k from answer.None way node tried = tt
tried_reached t ts path k from (answer.Row row resume) way node (is, le, matches) =
    let P : NodeNo → Type 0 = λ no. LeadsToRow (nodes_of t) ts path row no in
    (subst P (sym is) (refl, (k, from, way, node, le)), matches)

-- ---- going on

-- the next place comes later
pub node_later : (t : Tree) (ts : List terms.Tree) (path : List ℕ) (k next : ℕ) (n : PlainNode)
    → IsTree t → AreWide (length ts) (rows_of t.matrix) → IsWay (nodes_of t) ts 0 path k
    → slice_get (nodes_of t) k ≡ Some n → Leads ts (Some n) next → k < next
node_later t ts path k next n tree wide way node leads =
    let P : Option PlainNode → Type 0 = λ o. Leads ts o next in
    (next_place_on t.matrix tree.draft.0 (nodes_of t) ts k next tree.draft.1
    (at_tree t ts path k tree wide way).tells (subst P (sym node) leads)).later

-- where a test leads
leads_by : (o : Option terms.Tree) (test : Test) (next : ℕ)
    → option_map (next_place test) o ≡ Some next
    → (u : terms.Tree) × (o ≡ Some u) × (next_place test u ≡ next)
leads_by None test next e = absurd (let no : ⊥ = cc in no)
leads_by (Some u) test next e = (u, refl, cc)

pub next_leads : (ts : List terms.Tree) (test same : Test) (next : ℕ) → test ≡ same
    → ((u : terms.Tree) × (subject_at ts same.position.items ≡ Some u))
    → option_map (next_place test) (subject_at ts test.position.items) ≡ Some next
    → (u : terms.Tree) × (subject_at ts same.position.items ≡ Some u)
    × (next_place same u ≡ next)
next_leads ts test same next is there e =
    let P : Test → Type 0 = λ x.
    (u : terms.Tree) × (subject_at ts x.position.items ≡ Some u) × (next_place x u ≡ next) in
    subst P is (leads_by (subject_at ts test.position.items) test next e)
