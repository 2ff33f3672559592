-- What holds along the way of a walk.
use Rattle.std.proofs.Common.{◌≡◌, ◌<◌, ◌≤◌, ◌+◌, ℕ, zero, suc}
use Rattle.std.proofs.Common.{List, [], ◌∷◌, ◌++◌, length, map, Option, Some, None, slice_get}
use Rattle.std.proofs.Common.{refl, sym, ◌∙◌, ap, subst, arith}
use Rattle.std.specs.Option.{unwrap_or}
use Rattle.std.proofs.lemmas.List.{append_assoc, append-nil, map-append}
use Rattle.term_core.specs.Terms.{Tree}
use Rattle.pat_matrix.specs.Heads.{PlainHead, root}
use Rattle.pat_matrix.specs.Positions.{subject_at}
use Rattle.pat_matrix.specs.Rows.{Row, numbers_from}
use Rattle.pat_matrix.specs.MatchTrees.{Findings, AllCollapsed, AreRising, matching_rows}
use Rattle.pat_matrix.specs.MatrixView.{rows_of, order_of}
use Rattle.pat_matrix.specs.declared.matrix.Matrix.{Matrix}
use Rattle.pat_matrix.proofs.TreeHits.{rows_from-rising}
use Rattle.match_tree.specs.Labels.{Label}
use Rattle.match_tree.specs.FlatNodes.{PlainNode, end_node, hit_node, test_node, try_node}
use Rattle.match_tree.specs.FlatNodes.{IsNode, AllNodes}
use Rattle.match_tree.specs.Drafting.{IsLabelling}
use Rattle.match_tree.specs.Walking.{AreWide, Tells, find_place}
use Rattle.match_tree.specs.Ways.{Leads, IsWay, test_position, tested}
use Rattle.match_tree.proofs.WalkLaws.{branch_tells, other_tells, later_tells, found_place, no_place}

-- the positions that were tested before a place
abbrev pub positions_of : Findings → List (List ℕ)
positions_of found = map (λ (e : List ℕ × Option PlainHead). e.0) found

-- what holds at the next place on a way
pub record IsNext (pairs : List (ℕ × ℕ)) (all : List Row) (labels : ℕ → Label) (count : ℕ)
    (ts : List Tree) (k j : ℕ) (new : List (List ℕ)) : Type 0 where
  pub later : k < j
  pub within : j < count
  pub tells : Tells pairs all ts (labels j)
  pub found : positions_of (labels j).found ≡ positions_of (labels k).found ++ new

found_more : (found : Findings) (position : List ℕ) (o : Option PlainHead)
    → positions_of (found ++ (position, o) ∷ []) ≡ positions_of found ++ position ∷ []
found_more found position o =
    map-append (λ (e : List ℕ × Option PlainHead). e.0) found ((position, o) ∷ [])

next_by : (pairs : List (ℕ × ℕ)) (all : List Row) (labels : ℕ → Label) (count : ℕ)
    (ts : List Tree) (k j : ℕ) (l : Label) (new : List (List ℕ)) → k < j → j < count
    → labels j ≡ l → Tells pairs all ts l
    → positions_of l.found ≡ positions_of (labels k).found ++ new
    → IsNext pairs all labels count ts k j new
next_by pairs all labels count ts k j l new lt within is tells found =
    let P : Label → Type 0 = Tells pairs all ts in record {
      later = lt;
      within = within;
      tells = subst P (sym is) tells;
      found = ap (λ (m : Label). positions_of m.found) is ∙ found;
    }

-- a test that goes on at the place of a head, or at that for every other head
test_next : (pairs : List (ℕ × ℕ)) (all : List Row) (labels : ℕ → Label) (count : ℕ)
    (ts : List Tree) (k : ℕ) (position : List ℕ) (hs : List PlainHead) (js : List ℕ)
    (other : ℕ) (t : Tree) (o : Option ℕ) → Tells pairs all ts (labels k)
    → IsNode pairs labels count k (labels k) (test_node position hs js other)
    → subject_at ts position ≡ Some t → find_place hs js (root t) ≡ o
    → IsNext pairs all labels count ts k (unwrap_or o other) (position ∷ [])
test_next pairs all labels count ts k position hs js other t (Some j) tells
    (asks, reached, new, heads, places, lt, within, label) there is =
    let one = found_place pairs labels count k position (labels k) hs js (root t) j places is in
    next_by pairs all labels count ts k j _ (position ∷ []) one.0 one.1 one.2
    (branch_tells pairs all ts (labels k) position t tells there)
    (found_more (labels k).found position (Some (root t)))
test_next pairs all labels count ts k position hs js other t None tells
    (asks, reached, new, heads, places, lt, within, label) there is =
    next_by pairs all labels count ts k other _ (position ∷ []) lt within label
    (other_tells pairs all ts (labels k) position t tells there
    (sym (heads (root t))
    ∙ no_place pairs labels count k position (labels k) hs js (root t) places is))
    (found_more (labels k).found position None)

leads_next : (pairs : List (ℕ × ℕ)) (all : List Row) (labels : ℕ → Label)
    (nodes : List PlainNode) (ts : List Tree) (k j : ℕ) (o : Option PlainNode)
    → AllNodes pairs labels nodes → Tells pairs all ts (labels k) → slice_get nodes k ≡ o
    → Leads ts o j → IsNext pairs all labels (length nodes) ts k j (test_position o)
leads_next pairs all labels nodes ts k j None are tells at leads = absurd leads
leads_next pairs all labels nodes ts k j (Some end_node) are tells at leads = absurd leads
leads_next pairs all labels nodes ts k j (Some (try_node from)) are tells at leads = absurd leads
leads_next pairs all labels nodes ts k j (Some (hit_node r spots next)) are tells at leads =
    hit_next (are k (hit_node r spots next) at) where
      hit_next : IsNode pairs labels (length nodes) k (labels k) (hit_node r spots next)
          → IsNext pairs all labels (length nodes) ts k j []
      hit_next (ps, later, is, found, own, lt, within, label) =
          let P : ℕ → Type 0 = λ n. IsNext pairs all labels (length nodes) ts k n [] in
          subst P leads
          (next_by pairs all labels (length nodes) ts k next _ [] lt within label
          (later_tells pairs all ts (labels k) r ps later tells is)
          (sym (append-nil (positions_of (labels k).found))))
leads_next pairs all labels nodes ts k j (Some (test_node position hs js other)) are tells at
    (t, there, is) =
    let P : ℕ → Type 0 =
    λ n. IsNext pairs all labels (length nodes) ts k n (position ∷ []) in
    subst P is
    (test_next pairs all labels (length nodes) ts k position hs js other t _ tells
    (are k (test_node position hs js other) at) there refl)

pub next_place_on : (m : Matrix) (labels : ℕ → Label) (nodes : List PlainNode) (ts : List Tree)
    (k j : ℕ) → IsLabelling m labels nodes [] → Tells (order_of m) (rows_of m) ts (labels k)
    → Leads ts (slice_get nodes k) j
    → IsNext (order_of m) (rows_of m) labels (length nodes) ts k j
    (test_position (slice_get nodes k))
next_place_on m labels nodes ts k j h tells leads =
    leads_next (order_of m) (rows_of m) labels nodes ts k j (slice_get nodes k) h.are tells refl
    leads

-- what holds at the end of a way
pub record IsAt (m : Matrix) (labels : ℕ → Label) (nodes : List PlainNode) (ts : List Tree)
    (k : ℕ) (path : List ℕ) (j : ℕ) : Type 0 where
  pub far : k + length path ≤ j
  pub within : j < length nodes
  pub tells : Tells (order_of m) (rows_of m) ts (labels j)
  pub found : positions_of (labels j).found
      ≡ positions_of (labels k).found ++ tested nodes path

pub along : (m : Matrix) (labels : ℕ → Label) (nodes : List PlainNode) (ts : List Tree) (k : ℕ)
    (path : List ℕ) (j : ℕ) → IsLabelling m labels nodes [] → k < length nodes
    → Tells (order_of m) (rows_of m) ts (labels k) → IsWay nodes ts k path j
    → IsAt m labels nodes ts k path j
along m labels nodes ts k [] j h lt tells same =
    let P : ℕ → Type 0 = λ n. IsAt m labels nodes ts k [] n in
    subst P same (record {
      far = omega arith;
      within = lt;
      tells = tells;
      found = sym (append-nil (positions_of (labels k).found));
    })
along m labels nodes ts k (i ∷ path) j h lt tells (same, next, leads, way) =
    let one = next_place_on m labels nodes ts k next h tells leads in
    let rest = along m labels nodes ts next path j h one.within one.tells way in
    let own : test_position (slice_get nodes k) ≡ test_position (slice_get nodes i) =
    ap (λ (n : ℕ). test_position (slice_get nodes n)) same in record {
      far = omega (arith, one.later, rest.far);
      within = rest.within;
      tells = rest.tells;
      found = rest.found
          ∙ ap (λ (ps : List (List ℕ)). ps ++ tested nodes path) one.found
          ∙ append_assoc (positions_of (labels k).found) (test_position (slice_get nodes k))
          (tested nodes path)
          ∙ ap (λ (ps : List (List ℕ)). positions_of (labels k).found ++ (ps
          ++ tested nodes path)) own;
    }

-- a way goes on
pub way_goes_on : (nodes : List PlainNode) (ts : List Tree) (k : ℕ) (path : List ℕ) (j next : ℕ)
    → IsWay nodes ts k path j → Leads ts (slice_get nodes j) next
    → IsWay nodes ts k (path ++ j ∷ []) next
way_goes_on nodes ts k [] j next same leads =
    let P : ℕ → Type 0 = λ n. Leads ts (slice_get nodes n) next in
    (same, next, subst P (sym same) leads, refl)
way_goes_on nodes ts k (i ∷ path) j next (same, then_on, leads, way) more =
    (same, then_on, leads, way_goes_on nodes ts then_on path j next way more)

pub tested-append : (nodes : List PlainNode) (path : List ℕ) (k : ℕ)
    → tested nodes (path ++ k ∷ []) ≡ tested nodes path ++ test_position (slice_get nodes k)
tested-append nodes [] k = append-nil (test_position (slice_get nodes k))
tested-append nodes (i ∷ path) k =
    ap (λ (ps : List (List ℕ)). test_position (slice_get nodes i) ++ ps)
    (tested-append nodes path k)
    ∙ sym (append_assoc (test_position (slice_get nodes i)) (tested nodes path)
    (test_position (slice_get nodes k)))

-- ---- the root

pub rising_rows : (k n : ℕ) (rows : List Row) → map (λ (r : Row). r.0) rows ≡ numbers_from k n
    → AreRising k rows
rising_rows k n [] e = tt
rising_rows k zero (r ∷ rows) e = absurd (let no : ⊥ = cc in no)
rising_rows k (suc n) (r ∷ rows) e =
    let first : r.0 ≡ k = cc in
    let rest : map (λ (q : Row). q.0) rows ≡ numbers_from (k + 1) n = cc in
    let P : ℕ → Type 0 = λ i. AreRising (i + 1) rows in
    (omega arith, subst P (sym first) (rising_rows (k + 1) n rows rest))

pub root_tells : (m : Matrix) (labels : ℕ → Label) (nodes : List PlainNode) (ts : List Tree)
    → IsLabelling m labels nodes [] → AllCollapsed (rows_of m) → AreRising 0 (rows_of m)
    → AreWide (length ts) (rows_of m) → Tells (order_of m) (rows_of m) ts (labels 0)
root_tells m labels nodes ts h collapsed rising wide =
    let P : Label → Type 0 = Tells (order_of m) (rows_of m) ts in
    subst P (sym h.root) (record {
      collapsed = collapsed;
      rising = rising;
      wide = wide;
      true_of = λ position g there. absurd (omega (arith, there.1));
      same = ap (λ (rs : List Row). matching_rows (order_of m) rs ts)
          (rows_from-rising 0 0 (rows_of m) (omega arith) rising);
    })
