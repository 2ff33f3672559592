-- A tree in the making stays one for its matrix when a node is refined.
use Rattle.std.proofs.Common.{◌≡◌, ◌<◌, ◌≤◌, ◌+◌, ◌-◌, ℕ, zero, suc, Bool, true, false, List, []}
use Rattle.std.proofs.Common.{◌∷◌, ◌++◌, length, map, set, Option, Some, slice_get, nat_lt}
use Rattle.std.proofs.Common.{◌⊎◌, inl, inr, Contains, refl, sym, ◌∙◌, ap, subst, arith, eq-eqb}
use Rattle.std.specs.Prelude.{◌==◌, if◌then◌else◌}
use Rattle.std.specs.Option.{unwrap_or}
use Rattle.std.proofs.lemmas.Bool.{eqb-true, false≢true, lt-ltb, le-ltb}
use Rattle.std.proofs.lemmas.List.{length-append, length-set, length-map, map-append, append-nil}
use Rattle.std.proofs.lemmas.Option.{slice_get_within}
use Rattle.pat_matrix.specs.Rows.{Row}
use Rattle.pat_matrix.specs.MatrixView.{order_of, numbered_rows}
use Rattle.pat_matrix.specs.declared.matrix.Matrix.{Matrix}
use Rattle.pat_matrix.proofs.FindingLaws.{one_or_last}
use Rattle.match_tree.specs.Labels.{Label}
use Rattle.match_tree.specs.Trails.{Trail, source_of}
use Rattle.match_tree.specs.FlatNodes.{PlainNode, end_node, try_node, IsNode}
use Rattle.match_tree.specs.Drafting.{IsForced, MayTry, Work, IsLabelled, AreWorks, places_of}
use Rattle.match_tree.specs.Drafting.{IsLabelling, most_tested}
use Rattle.match_tree.specs.Drafting.{IsDraft}
use Rattle.match_tree.proofs.FlatLaws.{node_is_replaced, AfterSet, after_set}

-- ---- labels of new places

-- these labels, and these more
abbrev pub longer : (ℕ → Label) → ℕ → List Label → ℕ → Label
longer labels count more j =
    if nat_lt j count then labels j else unwrap_or (slice_get more (j - count)) (labels j)

pub longer-old : (labels : ℕ → Label) (count : ℕ) (more : List Label) (j : ℕ) → j < count
    → longer labels count more j ≡ labels j
longer-old labels count more j lt =
    ap (λ (b : Bool).
    if b then labels j else unwrap_or (slice_get more (j - count)) (labels j))
    (lt-ltb j count lt)

pub longer-new : (labels : ℕ → Label) (count : ℕ) (more : List Label) (i : ℕ) (l : Label)
    → slice_get more i ≡ Some l → longer labels count more (count + i) ≡ l
longer-new labels count more i l at =
    let index : count + i - count ≡ i = omega arith in
    ap (λ (b : Bool).
    if b then labels (count + i)
    else unwrap_or (slice_get more (count + i - count)) (labels (count + i)))
    (le-ltb (count + i) count (omega arith))
    ∙ ap (λ (k : ℕ). unwrap_or (slice_get more k) (labels (count + i))) index
    ∙ ap (λ (o : Option Label). unwrap_or o (labels (count + i))) at

-- the node that stands at a new place
abbrev pub try_of : Label → PlainNode
try_of l = try_node l.from

new_node : (more : List Label) (i : ℕ) (n : PlainNode) → slice_get (map try_of more) i ≡ Some n
    → (l : Label) × (slice_get more i ≡ Some l) × (try_of l ≡ n)
new_node [] i n at = absurd (let no : ⊥ = cc in no)
new_node (l ∷ more) zero n at = (l, refl, cc)
new_node (l ∷ more) (suc i) n at = new_node more i n at

-- ---- a node in the place of another

set_here : {X : Type 0} (xs ys : List X) (k : ℕ) (x : X) → k < length xs
    → slice_get (set xs k x ++ ys) k ≡ Some x
set_here [] ys k x lt = absurd (omega arith)
set_here (y ∷ xs) ys zero x lt = refl
set_here (y ∷ xs) ys (suc k) x lt = set_here xs ys k x (omega arith)

pub set_in_front : {X : Type 0} (xs ys : List X) (k : ℕ) (x : X) → k < length xs
    → set (xs ++ ys) k x ≡ set xs k x ++ ys
set_in_front [] ys k x lt = absurd (omega arith)
set_in_front (y ∷ xs) ys zero x lt = refl
set_in_front (y ∷ xs) ys (suc k) x lt =
    ap (λ (zs : List _). y ∷ zs) (set_in_front xs ys k x (omega arith))

forced_longer : (pairs : List (ℕ × ℕ)) (few many : ℕ) (rows : List Row) → few ≤ many
    → IsForced pairs few rows → IsForced pairs many rows
forced_longer pairs few many rows le (position, hs, apart, heads, past) =
    (position, hs, apart, heads, omega arith)

may_try_as : (pairs : List (ℕ × ℕ)) (few many : ℕ) (l k : Label) → few ≤ many → k ≡ l
    → MayTry pairs few l → MayTry pairs many k
may_try_as pairs few many l k le same (inl no_room) =
    let P : Label → Type 0 = λ i. MayTry pairs many i in
    subst P (sym same) (inl (forced_longer pairs few many l.rows le no_room))
may_try_as pairs few many l k le same (inr enough) =
    let P : Label → Type 0 = λ i. MayTry pairs many i in subst P (sym same) (inr enough)

-- an opened place that is another one than the first
abbrev Opened : List ℕ → ℕ → Type 0
Opened places k = Contains places k

other_place : (place : ℕ) (places : List ℕ) (k : ℕ) → (place ≡ k → ⊥)
    → Contains (place ∷ places) k → Contains places k
other_place place places k other (zero, lt, is) = absurd (other is)
other_place place places k other (suc i, lt, is) = (i, omega arith, is)

pub labelling_grows : (m : Matrix) (labels : ℕ → Label) (nodes : List PlainNode) (place : ℕ)
    (places wider : List ℕ) (more : List Label) (n : PlainNode)
    → IsLabelling m labels nodes (place ∷ places) → place < length nodes
    → ((i : ℕ) → n ≡ try_node i → ⊥)
    → IsNode (order_of m) (longer labels (length nodes) more) (length nodes + length more) place
    (labels place) n
    → ((k : ℕ) → Contains places k → Contains wider k)
    → ((i : ℕ) → i < length more → Contains wider (length nodes + i))
    → IsLabelling m (longer labels (length nodes) more)
    (set nodes place n ++ map try_of more) wider
labelling_grows m labels nodes place places wider more n h lt settled own old new = record {
  root = longer-old labels (length nodes) more 0 (omega arith) ∙ h.root;
  are = node_is_replaced (order_of m) labels (longer labels (length nodes) more) nodes
      (map try_of more) place n lt h.are
      (λ j within. longer-old labels (length nodes) more j within)
      (let P : ℕ → Type 0 = λ c. IsNode (order_of m) (longer labels (length nodes) more)
      (length nodes + c) place (labels place) n in
      subst P (sym (length-map more try_of)) own)
      (λ i j at.
      let one = new_node more i j at in
      let P : PlainNode → Type 0 = λ c. IsNode (order_of m) (longer labels (length nodes) more)
      (length nodes + length (map try_of more)) (length nodes + i)
      (longer labels (length nodes) more (length nodes + i)) c in
      subst P one.2
      (ap (λ (l : Label). l.from)
      (sym (longer-new labels (length nodes) more i one.0 one.1))));
  forced = λ k i at. forced_at k i (place == k) refl at
      (λ other. after_set nodes (map try_of more) place n k (try_node i) lt at);
} where
  count : length (set nodes place n ++ map try_of more) ≡ length nodes + length more
  count =
      length-append (set nodes place n) (map try_of more)
      ∙ ap (λ (c : ℕ). c + length (map try_of more)) (length-set nodes place n)
      ∙ ap (λ (c : ℕ). length nodes + c) (length-map more try_of)

  Result : ℕ → Type 0
  Result k =
      Contains wider k
      ⊎ MayTry (order_of m) (length (set nodes place n ++ map try_of more))
      (longer labels (length nodes) more k)

  still : (k i : ℕ) → (place ≡ k → ⊥) → k < length nodes
      → Contains (place ∷ places) k
      ⊎ MayTry (order_of m) (length nodes) (labels k)
      → Result k
  still k i other within (inl there) = inl (old k (other_place place places k other there))
  still k i other within (inr may) =
      inr (may_try_as (order_of m) (length nodes)
      (length (set nodes place n ++ map try_of more)) (labels k)
      (longer labels (length nodes) more k) (omega (arith, count))
      (longer-old labels (length nodes) more k within) may)

  elsewhere : (k i : ℕ) → (place ≡ k → ⊥)
      → AfterSet nodes (map try_of more) place n k (try_node i) → Result k
  elsewhere k i other (inl same) = absurd (other (sym same.0))
  elsewhere k i other (inr (inl there)) = still k i other there.0 (h.forced k i there.1)
  elsewhere k i other (inr (inr later)) =
      let P : ℕ → Type 0 = Contains wider in
      let within : later.0 < length (map try_of more) =
      slice_get_within (map try_of more) later.0 (try_node i) later.1.1 in
      inl (subst P (sym later.1.0)
      (new later.0 (omega (arith, length-map more try_of))))

  forced_at : (k i : ℕ) (b : Bool) → (place == k) ≡ b
      → slice_get (set nodes place n ++ map try_of more) k ≡ Some (try_node i)
      → ((place ≡ k → ⊥) → AfterSet nodes (map try_of more) place n k (try_node i))
      → Result k
  forced_at k i true is at cases =
      let here : Some n ≡ Some (try_node i) =
      sym (set_here nodes (map try_of more) place n lt)
      ∙ ap (slice_get (set nodes place n ++ map try_of more)) (eqb-true place k is) ∙ at in
      let same : n ≡ try_node i = cc in absurd (settled i same)
  forced_at k i false is at cases =
      let other : place ≡ k → ⊥ = λ same. false≢true (sym is ∙ eq-eqb place k same) in
      elsewhere k i other (cases other)

-- ---- what is left to do

pub works_grow : (m : Matrix) (labels : ℕ → Label) (count many : ℕ) (more : List Label)
    (ws : List Work) → count ≤ many → AreWorks m labels count ws
    → AreWorks m (longer labels count more) many ws
works_grow m labels count many more [] le h = tt
works_grow m labels count many more (w ∷ ws) le (within, own, rest) =
    let P : Label → Type 0 = λ l. IsLabelled m l w in (
      omega arith,
      subst P (sym (longer-old labels count more w.place within)) own,
      works_grow m labels count many more ws le rest,
    )

pub works_append : (m : Matrix) (labels : ℕ → Label) (count : ℕ) (ws more : List Work)
    → AreWorks m labels count ws → AreWorks m labels count more
    → AreWorks m labels count (ws ++ more)
works_append m labels count [] more h k = k
works_append m labels count (w ∷ ws) more (within, own, rest) k =
    (within, own, works_append m labels count ws more rest k)

-- the draft with other spellings of its nodes
pub draft_as : (m : Matrix) (labels : ℕ → Label) (nodes same : List PlainNode) (ws : List Work)
    (count : ℕ) → nodes ≡ same → IsLabelling m labels nodes (places_of ws)
    → AreWorks m labels count ws → count ≡ length nodes → IsDraft m same ws
draft_as m labels nodes same ws count is h works counted =
    let P : ℕ → Type 0 = λ c. AreWorks m labels c ws in
    let Q : List PlainNode → Type 0 = λ ns. IsDraft m ns ws in
    subst Q is (labels, h, subst P counted works)

-- a node of which no row is left
pub draft_end : (m : Matrix) (nodes : List PlainNode) (w : Work) (ws : List Work)
    → IsDraft m nodes (w ∷ ws) → w.rows ≡ [] → IsDraft m (set nodes w.place end_node) ws
draft_end m nodes w ws (labels, h, (within, own, works)) none =
    draft_as m (longer labels (length nodes) []) (set nodes w.place end_node ++ [])
    (set nodes w.place end_node) ws (length nodes) (append-nil (set nodes w.place end_node))
    (labelling_grows m labels nodes w.place (places_of ws) (places_of ws) [] end_node h within
    (λ i same. let no : ⊥ = cc in no) (own.rows ∙ ap (numbered_rows m) none) (λ k there. there)
    (λ i lt. absurd (omega arith)))
    (works_grow m labels (length nodes) (length nodes) [] ws (omega arith) works)
    (sym (ap length (append-nil (set nodes w.place end_node))
    ∙ length-set nodes w.place end_node))

-- a node that is not refined
pub draft_leave : (m : Matrix) (nodes : List PlainNode) (w : Work) (ws : List Work)
    → IsDraft m nodes (w ∷ ws)
    → IsForced (order_of m) (length nodes) (numbered_rows m w.rows)
    ⊎ (most_tested ≤ length w.trail)
    → IsDraft m nodes ws
draft_leave m nodes w ws (labels, h, (within, own, works)) why = (
  labels,
  record { root = h.root; are = h.are; forced = λ k n at. told k (h.forced k n at) },
  works,
) where
  here : IsForced (order_of m) (length nodes) (numbered_rows m w.rows)
      ⊎ (most_tested ≤ length w.trail)
      → MayTry (order_of m) (length nodes) (labels w.place)
  here (inl no_room) =
      let Q : List Row → Type 0 = IsForced (order_of m) (length nodes) in
      inl (subst Q (sym own.rows) no_room)
  here (inr enough) =
      let count : length w.trail ≡ length (labels w.place).found =
      sym (ap (λ (t : Trail). length t) own.trail)
      ∙ length-map (labels w.place).found (λ e. (e.0, source_of e.1)) in
      inr (subst (λ (n : ℕ). most_tested ≤ n) count enough)

  told : (k : ℕ)
      → Contains (w.place ∷ places_of ws) k
      ⊎ MayTry (order_of m) (length nodes) (labels k)
      → Contains (places_of ws) k ⊎ MayTry (order_of m) (length nodes) (labels k)
  told k (inl (zero, lt, is)) =
      let P : ℕ → Type 0 = λ i. MayTry (order_of m) (length nodes) (labels i) in
      inr (subst P is (here why))
  told k (inl (suc i, lt, is)) = inl (i, omega arith, is)
  told k (inr forced) = inr forced

-- the last work as the first
works_last : (m : Matrix) (labels : ℕ → Label) (count : ℕ) (ws : List Work) (w : Work)
    → AreWorks m labels count (ws ++ w ∷ []) → AreWorks m labels count (w ∷ ws)
works_last m labels count [] w h = h
works_last m labels count (v ∷ ws) w (within, own, rest) =
    let more = works_last m labels count ws w rest in
    (more.0, more.1, (within, own, more.2))

pub draft_last : (m : Matrix) (nodes : List PlainNode) (ws : List Work) (w : Work)
    → IsDraft m nodes (ws ++ w ∷ []) → IsDraft m nodes (w ∷ ws)
draft_last m nodes ws w (labels, h, works) = (
  labels,
  record { root = h.root; are = h.are; forced = λ k n at. told k (h.forced k n at) },
  works_last m labels (length nodes) ws w works,
) where
  moved : (k : ℕ) → Contains (places_of ws) k ⊎ (w.place ≡ k)
      → Contains (w.place ∷ places_of ws) k
  moved k (inl there) = (suc there.0, omega (arith, there.1), there.2)
  moved k (inr same) = (0, omega arith, same)

  told : (k : ℕ)
      → Contains (places_of (ws ++ w ∷ [])) k
      ⊎ MayTry (order_of m) (length nodes) (labels k)
      → Contains (w.place ∷ places_of ws) k
      ⊎ MayTry (order_of m) (length nodes) (labels k)
  told k (inl there) =
      let P : List ℕ → Type 0 = λ places. Contains places k in
      inl (moved k (one_or_last (places_of ws) w.place k
      (subst P (map-append (λ (v : Work). v.place) ws (w ∷ [])) there)))
  told k (inr forced) = inr forced
