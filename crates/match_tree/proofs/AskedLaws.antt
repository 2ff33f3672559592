-- Each position that a walk tests is asked by a row that is left there.
use Rattle.std.proofs.Common.{◌≡◌, ◌⊎◌, inl, inr, ℕ, suc, Bool, true, false, List, [], ◌∷◌}
use Rattle.std.proofs.Common.{◌++◌, length, Option, Some, None, slice_get, Contains, refl, sym}
use Rattle.std.proofs.Common.{◌∙◌, ap, subst, arith}
use Rattle.std.specs.Prelude.{◌||◌, filter, not}
use Rattle.std.specs.Option.{unwrap_or}
use Rattle.std.proofs.lemmas.Bool.{false≢true}
use Rattle.std.proofs.lemmas.List.{append-nil}
use Rattle.term_core.specs.Terms as terms
use Rattle.term_core.specs.Patterns.{Pattern}
use Rattle.pat_matrix.specs.Heads.{PlainHead, root}
use Rattle.pat_matrix.specs.Positions.{row_asks, subject_at}
use Rattle.pat_matrix.specs.Rows.{Row, is_wild, wants}
use Rattle.pat_matrix.specs.MatchTrees.{some_asks}
use Rattle.pat_matrix.specs.MatrixView.{rows_of, order_of}
use Rattle.pat_matrix.specs.declared.matrix.Matrix.{Matrix}
use Rattle.pat_matrix.proofs.FindingLaws.{one_or_last}
use Rattle.match_tree.specs.Labels.{Label}
use Rattle.match_tree.specs.FlatNodes.{PlainNode, end_node, hit_node, test_node, try_node, IsNode}
use Rattle.match_tree.specs.Drafting.{IsLabelling}
use Rattle.match_tree.specs.Walking.{find_place}
use Rattle.match_tree.specs.Ways.{Leads, IsWay, test_position, tested}
use Rattle.match_tree.specs.TreeView.{nodes_of, IsTree}
use Rattle.match_tree.specs.Asking.{CanStillMatch, AreAskedInTurn}
use Rattle.match_tree.specs.declared.compiling.Tree.{Tree}
use Rattle.match_tree.proofs.WalkLaws.{found_place}

-- ---- rows

abbrev AllRows : (Row → Type 0) → List Row → Type 0
AllRows P [] = Unit {0}
AllRows P (r ∷ rows) = P r × AllRows P rows

all_rows-step : (Q : Row → Type 0) (keep : Row → Bool) (r : Row) (rows : List Row) (b : Bool)
    → keep r ≡ b → (keep r ≡ true → Q r) → AllRows Q (filter keep rows)
    → AllRows Q (filter keep (r ∷ rows))
all_rows-step Q keep r rows true is own rest = rw is (own is, rest)
all_rows-step Q keep r rows false is own rest = rw is rest

all_rows-filter : (P Q : Row → Type 0) (keep : Row → Bool) (rows : List Row)
    → ((r : Row) → keep r ≡ true → P r → Q r) → AllRows P rows → AllRows Q (filter keep rows)
all_rows-filter P Q keep [] leads h = tt
all_rows-filter P Q keep (r ∷ rows) leads h =
    all_rows-step Q keep r rows (keep r) refl (λ is. leads r is h.0)
    (all_rows-filter P Q keep rows leads h.1)

-- one of them asks the position
abbrev OneAsks : (Row → Type 0) → List ℕ → Type 0
OneAsks P position = (r : Row) × P r × (is_wild (row_asks r.1 position) ≡ false)

one_asks-step : (P : Row → Type 0) (position : List ℕ) (r : Row) (rest b : Bool)
    → is_wild (row_asks r.1 position) ≡ b → (not b || rest) ≡ true → P r
    → (rest ≡ true → OneAsks P position) → OneAsks P position
one_asks-step P position r rest false is e own later = (r, own, is)
one_asks-step P position r rest true is e own later = later e

one_asks : (P : Row → Type 0) (position : List ℕ) (rows : List Row) → AllRows P rows
    → some_asks position rows ≡ true → OneAsks P position
one_asks P position [] h e = absurd (false≢true e)
one_asks P position (r ∷ rows) h e =
    one_asks-step P position r (some_asks position rows) (is_wild (row_asks r.1 position)) refl e
    h.0 (one_asks P position rows h.1)

-- ---- rows that are left

-- it is a row of the matrix and can match by what was found at these positions
abbrev IsLeft : Matrix → List terms.Tree → List (List ℕ) → Row → Type 0
IsLeft m ts old r = Contains (rows_of m) r × CanStillMatch (order_of m) ts old r.1

abbrev AreLeft : Matrix → List terms.Tree → List (List ℕ) → Label → Type 0
AreLeft m ts old l = AllRows (IsLeft m ts old) l.rows

still_more : (m : Matrix) (ts : List terms.Tree) (old : List (List ℕ)) (position : List ℕ)
    (t : terms.Tree) (r : Row) → subject_at ts position ≡ Some t
    → wants (order_of m) (root t) (row_asks r.1 position) ≡ true → IsLeft m ts old r
    → IsLeft m ts (old ++ position ∷ []) r
still_more m ts old position t r there own left = (
  left.0,
  λ place u before is. told place u is (one_or_last old position place before),
) where
  told : (place : List ℕ) (u : terms.Tree) → subject_at ts place ≡ Some u
      → Contains old place ⊎ (position ≡ place)
      → wants (order_of m) (root u) (row_asks r.1 place) ≡ true
  told place u is (inl before) = left.1 place u before is
  told place u is (inr same) =
      let both : Some t ≡ Some u = sym there ∙ ap (subject_at ts) same ∙ is in
      let one : t ≡ u = cc in
      let P : terms.Tree → Type 0 =
      λ v. wants (order_of m) (root v) (row_asks r.1 place) ≡ true in
      let Q : List ℕ → Type 0 =
      λ p. wants (order_of m) (root t) (row_asks r.1 p) ≡ true in
      subst P one (subst Q same own)

wild_wants : (pairs : List (ℕ × ℕ)) (h : PlainHead) (o : Option Pattern) → is_wild o ≡ true
    → wants pairs h o ≡ true
wild_wants pairs h None e = refl
wild_wants pairs h (Some q) e = absurd (false≢true e)

-- the rows that are left at the next place of a test
left_after_test : (m : Matrix) (labels : ℕ → Label) (count k : ℕ) (ts : List terms.Tree)
    (old : List (List ℕ)) (position : List ℕ) (hs : List PlainHead) (js : List ℕ) (other : ℕ)
    (t : terms.Tree) (o : Option ℕ)
    → IsNode (order_of m) labels count k (labels k) (test_node position hs js other)
    → subject_at ts position ≡ Some t → find_place hs js (root t) ≡ o
    → AreLeft m ts old (labels k)
    → AreLeft m ts (old ++ position ∷ []) (labels (unwrap_or o other))
left_after_test m labels count k ts old position hs js other t (Some j)
    (asks, reached, new, heads, places, lt, within, label) there is left =
    let one = found_place (order_of m) labels count k position (labels k) hs js (root t) j places
    is in
    let P : Label → Type 0 = AreLeft m ts (old ++ position ∷ []) in
    subst P (sym one.2)
    (all_rows-filter (IsLeft m ts old) (IsLeft m ts (old ++ position ∷ [])) _ (labels k).rows
    (λ r own was. still_more m ts old position t r there own was) left)
left_after_test m labels count k ts old position hs js other t None
    (asks, reached, new, heads, places, lt, within, label) there is left =
    let P : Label → Type 0 = AreLeft m ts (old ++ position ∷ []) in
    subst P (sym label)
    (all_rows-filter (IsLeft m ts old) (IsLeft m ts (old ++ position ∷ [])) _ (labels k).rows
    (λ r own was. still_more m ts old position t r there
    (wild_wants (order_of m) (root t) (row_asks r.1 position) own) was) left)

left_next : (m : Matrix) (labels : ℕ → Label) (nodes : List PlainNode) (ts : List terms.Tree)
    (k next : ℕ) (old : List (List ℕ)) (o : Option PlainNode) → IsLabelling m labels nodes []
    → slice_get nodes k ≡ o → Leads ts o next → AreLeft m ts old (labels k)
    → AreLeft m ts (old ++ test_position o) (labels next)
left_next m labels nodes ts k next old None h at leads left = absurd leads
left_next m labels nodes ts k next old (Some end_node) h at leads left = absurd leads
left_next m labels nodes ts k next old (Some (try_node from)) h at leads left = absurd leads
left_next m labels nodes ts k next old (Some (hit_node r spots j)) h at leads left =
    told (h.are k (hit_node r spots j) at) where
      told : IsNode (order_of m) labels (length nodes) k (labels k) (hit_node r spots j)
          → AreLeft m ts (old ++ []) (labels next)
      told (ps, later, is, found, own, lt, within, label) =
          let P : List Row → Type 0 = AllRows (IsLeft m ts old) in
          let Q : Label → Type 0 = AreLeft m ts old in
          let R : ℕ → Type 0 = λ n. AreLeft m ts old (labels n) in
          let S : List (List ℕ) → Type 0 = λ p. AreLeft m ts p (labels next) in
          let both : AllRows (IsLeft m ts old) ((r, ps) ∷ later) = subst P is left in
          subst S (sym (append-nil old)) (subst R leads (subst Q (sym label) both.1))
left_next m labels nodes ts k next old (Some (test_node position hs js other)) h at
    (t, there, is) left =
    let R : ℕ → Type 0 = λ n. AreLeft m ts (old ++ position ∷ []) (labels n) in
    subst R is
    (left_after_test m labels (length nodes) k ts old position hs js other t _
    (h.are k (test_node position hs js other) at) there refl left)

-- ---- along a way

asked_next : (m : Matrix) (labels : ℕ → Label) (nodes : List PlainNode) (ts : List terms.Tree)
    (k next : ℕ) (old later : List (List ℕ)) (o : Option PlainNode)
    → IsLabelling m labels nodes [] → slice_get nodes k ≡ o → Leads ts o next
    → AreLeft m ts old (labels k) → AreAskedInTurn m ts (old ++ test_position o) later
    → AreAskedInTurn m ts old (test_position o ++ later)
asked_next m labels nodes ts k next old later None h at leads left rest = absurd leads
asked_next m labels nodes ts k next old later (Some end_node) h at leads left rest = absurd leads
asked_next m labels nodes ts k next old later (Some (try_node from)) h at leads left rest =
    absurd leads
asked_next m labels nodes ts k next old later (Some (hit_node r spots j)) h at leads left rest =
    let P : List (List ℕ) → Type 0 = λ p. AreAskedInTurn m ts p later in
    subst P (append-nil old) rest
asked_next m labels nodes ts k next old later (Some (test_node position hs js other)) h at leads
    left rest =
    (asked (h.are k (test_node position hs js other) at), rest) where
      asked : IsNode (order_of m) labels (length nodes) k (labels k)
          (test_node position hs js other)
          → (r : Row) × Contains (rows_of m) r × (is_wild (row_asks r.1 position) ≡ false)
          × CanStillMatch (order_of m) ts old r.1
      asked (asks, reached, new, heads, places, lt, within, label) =
          let one = one_asks (IsLeft m ts old) position (labels k).rows left asks in
          (one.0, one.1.0, one.2, one.1.1)

asked_along : (m : Matrix) (labels : ℕ → Label) (nodes : List PlainNode) (ts : List terms.Tree)
    (k : ℕ) (old : List (List ℕ)) (path : List ℕ) (j : ℕ) → IsLabelling m labels nodes []
    → AreLeft m ts old (labels k) → IsWay nodes ts k path j
    → AreAskedInTurn m ts old (tested nodes path)
asked_along m labels nodes ts k old [] j h left way = tt
asked_along m labels nodes ts k old (i ∷ path) j h left (same, next, leads, way) =
    let P : ℕ → Type 0 = λ n. AreAskedInTurn m ts old
    (test_position (slice_get nodes n) ++ tested nodes path) in
    subst P same
    (asked_next m labels nodes ts k next old (tested nodes path) (slice_get nodes k) h refl leads
    left
    (asked_along m labels nodes ts next (old ++ test_position (slice_get nodes k)) path j h
    (left_next m labels nodes ts k next old (slice_get nodes k) h refl leads left) way))

all_left : (m : Matrix) (ts : List terms.Tree) (rows : List Row)
    → ((r : Row) → Contains rows r → Contains (rows_of m) r) → AllRows (IsLeft m ts []) rows
all_left m ts [] h = tt
all_left m ts (r ∷ rows) h = (
  (
    h r (0, omega arith, refl),
    λ place u before is. absurd (omega (arith, before.1)),
  ),
  all_left m ts rows (λ q there. h q (suc there.0, omega (arith, there.1), there.2)),
)

-- the positions that the nodes of a way from the start test are asked, each by a row that is left
pub tested_asked : (t : Tree) (ts : List terms.Tree) (path : List ℕ) (k : ℕ) → IsTree t
    → IsWay (nodes_of t) ts 0 path k → AreAskedInTurn t.matrix ts [] (tested (nodes_of t) path)
tested_asked t ts path k tree way =
    let labels = tree.draft.0 in
    let h = tree.draft.1 in
    let P : Label → Type 0 = AreLeft t.matrix ts [] in
    asked_along t.matrix labels (nodes_of t) ts 0 [] path k h
    (subst P (sym h.root) (all_left t.matrix ts (rows_of t.matrix) (λ r there. there))) way
