-- A node of a tree in the making becomes a hit or a test.
use Rattle.std.proofs.Common.{◌≡◌, ◌<◌, ◌≤◌, ◌+◌, ℕ, zero, suc, Bool, true, false, List, [], ◌∷◌}
use Rattle.std.proofs.Common.{◌++◌, length, map, set, replicate, Option, Some, None, slice_get}
use Rattle.std.proofs.Common.{inl, Contains, refl, sym, ◌∙◌, ap, subst, arith}
use Rattle.std.specs.Prelude.{◌||◌, filter, not, if◌then◌else◌}
use Rattle.std.proofs.lemmas.Bool.{false≢true}
use Rattle.std.proofs.lemmas.List.{length-append, length-set, length-map, map-append}
use Rattle.term_core.specs.Patterns.{Pattern}
use Rattle.pat_matrix.specs.Heads.{PlainHead, head_eq}
use Rattle.pat_matrix.specs.Positions.{asked_positions}
use Rattle.pat_matrix.specs.Occurrences.{row_twins}
use Rattle.pat_matrix.specs.Rows.{Row, is_wild, specialized, others, some_takes, numbers_from}
use Rattle.pat_matrix.specs.MatchTrees.{Findings, some_asks}
use Rattle.pat_matrix.specs.Findings.{Fits, AllFit}
use Rattle.pat_matrix.specs.MatrixView.{row_of, rows_of, order_of, numbered_rows}
use Rattle.pat_matrix.specs.Groups.{numbers_under, takes_at, is_wild_at}
use Rattle.pat_matrix.specs.declared.matrix.Matrix.{Matrix}
use Rattle.pat_matrix.proofs.FindingLaws.{tested_row_is_found, positions_are_reached}
use Rattle.pat_matrix.proofs.FindingLaws.{branch_rows_fit, other_rows_fit}
use Rattle.pat_matrix.proofs.HeadLaws.{head_eq-true, head_eq-same}
use Rattle.pat_matrix.proofs.ListedLaws.{listed_are_asked, in_front, behind}
use Rattle.match_tree.specs.Labels.{Label}
use Rattle.match_tree.specs.Trails.{Trail, trail_of, source_of, first_untested}
use Rattle.match_tree.specs.Spots.{Spot, spots_of}
use Rattle.match_tree.specs.FlatNodes.{PlainNode, hit_node, test_node, try_node, has_head}
use Rattle.match_tree.specs.FlatNodes.{AreBranchPlaces, IsNode}
use Rattle.match_tree.specs.Joining.{joined}
use Rattle.match_tree.specs.Drafting.{AreApart, Work, IsLabelled, AreWorks, places_of, IsDraft}
use Rattle.match_tree.specs.Drafting.{branch_works, AreAbove, IsRising, root_label}
use Rattle.match_tree.proofs.TrailLaws.{all_tested, first_is, tested_true}
use Rattle.match_tree.proofs.JoinLaws.{joined_specialized, joined_rising, wild_others}
use Rattle.match_tree.proofs.JoinLaws.{rising-filter}
use Rattle.match_tree.proofs.DraftLaws.{longer, longer-new, try_of, set_in_front}
use Rattle.match_tree.proofs.DraftLaws.{labelling_grows, works_grow, works_append, draft_as}

-- ---- hits

-- the label of a hit's next place
abbrev later_label : Matrix → Label → ℕ → List ℕ → Label
later_label m l row rows =
    record { from = row + 1; found = l.found; rows = numbered_rows m rows }

later_labelled : (m : Matrix) (l : Label) (w : Work) (place row : ℕ) (rows : List ℕ)
    → IsLabelled m l w → w.rows ≡ row ∷ rows
    → IsLabelled m (later_label m l row rows)
    (record { place = place; from = row + 1; rows = rows; trail = w.trail })
later_labelled m l w place row rows own is =
    let P : List ℕ → Type 0 = λ ns. AllFit (order_of m) l.found (numbered_rows m ns) in
    let fit : AllFit (order_of m) l.found (numbered_rows m (row ∷ rows)) = subst P is own.fit in
    record { from = refl; rows = refl; trail = own.trail; fit = fit.1; rising = rest } where
      rest : IsRising rows
      rest =
          let Q : List ℕ → Type 0 = IsRising in
          let both : IsRising (row ∷ rows) = subst Q is own.rising in both.1

first_fits : (m : Matrix) (l : Label) (w : Work) (row : ℕ) (rows : List ℕ) → IsLabelled m l w
    → w.rows ≡ row ∷ rows → Fits (order_of m) l.found (row_of m row)
first_fits m l w row rows own is =
    let P : List ℕ → Type 0 = λ ns. AllFit (order_of m) l.found (numbered_rows m ns) in
    let fit : AllFit (order_of m) l.found (numbered_rows m (row ∷ rows)) = subst P is own.fit in
    fit.0

pub draft_hit : (m : Matrix) (nodes : List PlainNode) (w : Work) (ws : List Work) (row : ℕ)
    (rows : List ℕ) (spots : List (Spot × Spot)) → IsDraft m nodes (w ∷ ws)
    → w.rows ≡ row ∷ rows
    → first_untested w.trail (asked_positions (row_of m row)) ≡ None
    → spots ≡ spots_of w.trail (row_twins (row_of m row))
    → IsDraft m (set (nodes ++ try_node (row + 1) ∷ []) w.place
    (hit_node row spots (length nodes)))
    (record { place = length nodes; from = row + 1; rows = rows; trail = w.trail } ∷ ws)
draft_hit m nodes w ws row rows spots (labels, h, (within, own, works)) is none spots_are =
    let l : Label = labels w.place in
    let next : Label = later_label m l row rows in
    let hit : PlainNode = hit_node row spots (length nodes) in
    let new : ℕ → Label = longer labels (length nodes) (next ∷ []) in
    let index : length nodes + 0 ≡ length nodes = omega arith in
    let label : new (length nodes) ≡ next =
    ap new (sym index) ∙ longer-new labels (length nodes) (next ∷ []) 0 next refl in
    let L : Label → Type 0 = λ k. IsLabelled m k
    (record { place = length nodes; from = row + 1; rows = rows; trail = w.trail }) in
    draft_as m new (set nodes w.place hit ++ map try_of (next ∷ []))
    (set (nodes ++ try_node (row + 1) ∷ []) w.place hit)
    (record { place = length nodes; from = row + 1; rows = rows; trail = w.trail } ∷ ws)
    (length nodes + 1)
    (sym (set_in_front nodes (try_node (row + 1) ∷ []) w.place hit within))
    (labelling_grows m labels nodes w.place (places_of ws) (length nodes ∷ places_of ws)
    (next ∷ []) hit h within (λ i same. let no : ⊥ = cc in no) (
      row_of m row,
      numbered_rows m rows,
      own.rows ∙ ap (numbered_rows m) is,
      tested_row_is_found (order_of m) l.found (row_of m row) (first_fits m l w row rows own is)
          (all_tested l.found (asked_positions (row_of m row))
          (ap (λ (t : Trail). first_untested t (asked_positions (row_of m row))) own.trail
          ∙ none)),
      spots_are ∙ ap (λ (t : Trail). spots_of t (row_twins (row_of m row))) (sym own.trail),
      within,
      omega arith,
      label,
    )
    (λ k there. (suc there.0, omega (arith, there.1), there.2))
    (λ i lt. (0, omega arith, omega arith))) (
      omega arith,
      subst L (sym label) (later_labelled m l w (length nodes) row rows own is),
      works_grow m labels (length nodes) (length nodes + 1) (next ∷ []) ws (omega arith) works,
    )
    (sym (length-append (set nodes w.place hit) (map try_of (next ∷ []))
    ∙ ap (λ (c : ℕ). c + 1) (length-set nodes w.place hit)))

-- ---- tests

-- the labels of a test's places
abbrev branch_label : List (ℕ × ℕ) → List ℕ → Label → PlainHead → Label
branch_label pairs position l h = record {
  from = l.from;
  found = l.found ++ (position, Some h) ∷ [];
  rows = specialized pairs position h l.rows;
}

abbrev other_label : List ℕ → Label → Label
other_label position l = record {
  from = l.from;
  found = l.found ++ (position, None) ∷ [];
  rows = others position l.rows;
}

trail_more : (found : Findings) (trail : Trail) (position : List ℕ) (o : Option PlainHead)
    → trail_of found ≡ trail
    → trail_of (found ++ (position, o) ∷ []) ≡ trail ++ (position, source_of o) ∷ []
trail_more found trail position o is =
    map-append (λ (e : List ℕ × Option PlainHead). (e.0, source_of e.1)) found
    ((position, o) ∷ [])
    ∙ ap (λ (t : Trail). t ++ (position, source_of o) ∷ []) is

branch_labelled : (m : Matrix) (l : Label) (w : Work) (place : ℕ) (position : List ℕ)
    (h : PlainHead) (ns wild : List ℕ) → IsLabelled m l w
    → ns ≡ filter (takes_at m position h) w.rows
    → wild ≡ filter (is_wild_at m position) w.rows
    → IsLabelled m (branch_label (order_of m) position l h) (record {
      place = place;
      from = w.from;
      rows = joined ns wild;
      trail = w.trail ++ (position, source_of (Some h)) ∷ [];
    })
branch_labelled m l w place position h ns wild own takes asks =
    let left =
    joined_specialized m position h ns wild w.rows own.rising takes asks in
    let P : List Row → Type 0 =
    λ rs. AllFit (order_of m) (l.found ++ (position, Some h) ∷ []) rs in record {
      from = own.from;
      rows = ap (specialized (order_of m) position h) own.rows ∙ left;
      trail = trail_more l.found w.trail position (Some h) own.trail;
      fit = subst P left
          (branch_rows_fit (order_of m) l.found position h (numbered_rows m w.rows) own.fit);
      rising = joined_rising m position h ns wild w.rows own.rising takes asks;
    }

other_labelled : (m : Matrix) (l : Label) (w : Work) (place : ℕ) (position wild : List ℕ)
    → IsLabelled m l w → wild ≡ filter (is_wild_at m position) w.rows
    → IsLabelled m (other_label position l) (record {
      place = place;
      from = w.from;
      rows = wild;
      trail = w.trail ++ (position, None) ∷ [];
    })
other_labelled m l w place position wild own asks =
    let left = wild_others m position wild w.rows asks in
    let P : List Row → Type 0 =
    λ rs. AllFit (order_of m) (l.found ++ (position, None) ∷ []) rs in
    let Q : List ℕ → Type 0 = IsRising in record {
      from = own.from;
      rows = ap (others position) own.rows ∙ left;
      trail = trail_more l.found w.trail position None own.trail;
      fit = subst P left
          (other_rows_fit (order_of m) l.found position (numbered_rows m w.rows) own.fit);
      rising = subst Q (sym asks) (rising-filter _ w.rows own.rising);
    }

-- the labels of the branches stand from a place on
abbrev AreLabels : Matrix → (ℕ → Label) → List ℕ → Label → ℕ → List PlainHead → Type 0
AreLabels m labels position l place hs =
    (i : ℕ) (h : PlainHead) → slice_get hs i ≡ Some h
    → labels (place + i) ≡ branch_label (order_of m) position l h

labels_first : (m : Matrix) (labels : ℕ → Label) (position : List ℕ) (l : Label) (place : ℕ)
    (h : PlainHead) (hs : List PlainHead) → AreLabels m labels position l place (h ∷ hs)
    → labels place ≡ branch_label (order_of m) position l h
labels_first m labels position l place h hs are =
    let index : place ≡ place + 0 = omega arith in ap labels index ∙ are 0 h refl

labels_rest : (m : Matrix) (labels : ℕ → Label) (position : List ℕ) (l : Label) (place : ℕ)
    (h : PlainHead) (hs : List PlainHead) → AreLabels m labels position l place (h ∷ hs)
    → AreLabels m labels position l (place + 1) hs
labels_rest m labels position l place h hs are i g at =
    let index : place + 1 + i ≡ place + suc i = omega arith in
    ap labels index ∙ are (suc i) g at

branch_places : (m : Matrix) (labels : ℕ → Label) (count k : ℕ) (position : List ℕ) (l : Label)
    (place : ℕ) (hs : List PlainHead) → AreApart hs → k < place → place + length hs ≤ count
    → AreLabels m labels position l place hs
    → AreBranchPlaces (order_of m) labels count k position l hs (numbers_from place (length hs))
branch_places m labels count k position l place [] apart lt room are = tt
branch_places m labels count k position l place (h ∷ hs) apart lt room are = (
  apart.0,
  lt,
  omega arith,
  labels_first m labels position l place h hs are,
  branch_places m labels count k position l (place + 1) hs apart.1 (omega arith) (omega arith)
      (labels_rest m labels position l place h hs are),
)

own_list : (h : PlainHead) (ns rest : List ℕ) → (if head_eq h h then ns else rest) ≡ ns
own_list h ns rest = ap (λ (b : Bool). if b then ns else rest) (head_eq-same h)

other_list : (h g : PlainHead) (hs : List PlainHead) (ns rest : List ℕ)
    → has_head hs h ≡ false → has_head hs g ≡ true
    → (if head_eq h g then ns else rest) ≡ rest
other_list h g hs ns rest once there = told (head_eq h g) refl where
  told : (b : Bool) → head_eq h g ≡ b → (if head_eq h g then ns else rest) ≡ rest
  told true is =
      absurd (false≢true (sym once ∙ ap (has_head hs) (head_eq-true h g is) ∙ there))
  told false is = ap (λ (b : Bool). if b then ns else rest) is

-- each head has the list of the rows that take it
abbrev pub HaveLists : Matrix → List ℕ → List ℕ → List PlainHead → List (List ℕ) → Type 0
HaveLists m position rows hs lists =
    (g : PlainHead) → has_head hs g ≡ true
    → numbers_under hs lists g ≡ filter (takes_at m position g) rows

lists_rest : (m : Matrix) (position rows : List ℕ) (h : PlainHead) (hs : List PlainHead)
    (ns : List ℕ) (lists : List (List ℕ)) → has_head hs h ≡ false
    → HaveLists m position rows (h ∷ hs) (ns ∷ lists) → HaveLists m position rows hs lists
lists_rest m position rows h hs ns lists once have g there =
    sym (other_list h g hs ns (numbers_under hs lists g) once there)
    ∙ have g (ap (λ (b : Bool). head_eq h g || b) there ∙ or_true (head_eq h g)) where
      or_true : (b : Bool) → (b || true) ≡ true
      or_true true = refl
      or_true false = refl

branch_works_are : (m : Matrix) (labels : ℕ → Label) (count : ℕ) (l : Label) (w : Work)
    (position wild : List ℕ) (place : ℕ) (hs : List PlainHead) (lists : List (List ℕ))
    → IsLabelled m l w → wild ≡ filter (is_wild_at m position) w.rows → AreApart hs
    → place + length hs ≤ count → AreLabels m labels position l place hs
    → HaveLists m position w.rows hs lists
    → AreWorks m labels count (branch_works place w.from wild w.trail position hs lists)
branch_works_are m labels count l w position wild place [] lists own asks apart room are have = tt
branch_works_are m labels count l w position wild place (h ∷ hs) [] own asks apart room are
    have = tt
branch_works_are m labels count l w position wild place (h ∷ hs) (ns ∷ lists) own asks apart room
    are have =
    let P : Label → Type 0 = λ k. IsLabelled m k (record {
      place = place;
      from = w.from;
      rows = joined ns wild;
      trail = w.trail ++ (position, source_of (Some h)) ∷ [];
    }) in
    let takes : ns ≡ filter (takes_at m position h) w.rows =
    sym (own_list h ns (numbers_under hs lists h))
    ∙ have h (ap (λ (b : Bool). b || has_head hs h) (head_eq-same h)) in (
      omega arith,
      subst P (sym (labels_first m labels position l place h hs are))
          (branch_labelled m l w place position h ns wild own takes asks),
      branch_works_are m labels count l w position wild (place + 1) hs lists own asks apart.1
          (omega arith) (labels_rest m labels position l place h hs are)
          (lists_rest m position w.rows h hs ns lists apart.0 have),
    )

-- the places of works for branches
branch_works_at : (place from : ℕ) (wild : List ℕ) (trail : Trail) (position : List ℕ)
    (hs : List PlainHead) (lists : List (List ℕ)) (i : ℕ) → length lists ≡ length hs
    → i < length hs
    → Contains (places_of (branch_works place from wild trail position hs lists)) (place + i)
branch_works_at place from wild trail position [] lists i count lt = absurd (omega arith)
branch_works_at place from wild trail position (h ∷ hs) [] i count lt = absurd (omega arith)
branch_works_at place from wild trail position (h ∷ hs) (ns ∷ lists) zero count lt =
    (0, omega arith, omega arith)
branch_works_at place from wild trail position (h ∷ hs) (ns ∷ lists) (suc i) count lt =
    let one = branch_works_at (place + 1) from wild trail position hs lists i (omega arith)
    (omega arith) in
    let P : ℕ → Type 0 =
    Contains (place ∷ places_of (branch_works (place + 1) from wild trail position hs lists)) in
    let index : place + 1 + i ≡ place + suc i = omega arith in
    subst P index (suc one.0, omega (arith, one.1), one.2)

-- the labels of a test's places, of that for every other head first
abbrev test_labels : Matrix → List ℕ → Label → List PlainHead → List Label
test_labels m position l hs =
    other_label position l ∷ map (branch_label (order_of m) position l) hs

test_tries : (m : Matrix) (position : List ℕ) (l : Label) (hs : List PlainHead) (from : ℕ)
    → l.from ≡ from
    → map try_of (test_labels m position l hs)
    ≡ try_node from ∷ replicate (length hs) (try_node from)
test_tries m position l hs from is =
    ap (λ (k : ℕ). try_node k ∷ map try_of (map (branch_label (order_of m) position l) hs)) is
    ∙ ap (λ (ns : List PlainNode). try_node from ∷ ns) (tries hs) where
      tries : (gs : List PlainHead)
          → map try_of (map (branch_label (order_of m) position l) gs)
          ≡ replicate (length gs) (try_node from)
      tries [] = refl
      tries (g ∷ gs) =
          ap (λ (k : ℕ). try_node k ∷ map try_of (map (branch_label (order_of m) position l) gs))
          is
          ∙ ap (λ (ns : List PlainNode). try_node from ∷ ns) (tries gs)

label_at : (m : Matrix) (position : List ℕ) (l : Label) (hs : List PlainHead) (i : ℕ)
    (h : PlainHead) → slice_get hs i ≡ Some h
    → slice_get (map (branch_label (order_of m) position l) hs) i
    ≡ Some (branch_label (order_of m) position l h)
label_at m position l [] i h at = absurd (let no : ⊥ = cc in no)
label_at m position l (g ∷ hs) zero h at = ap (λ (k : PlainHead). Some (branch_label (order_of m) position l k)) (let same : g ≡ h = cc in same)
label_at m position l (g ∷ hs) (suc i) h at = label_at m position l hs i h at

-- the first row asks the position
first_asks : (m : Matrix) (l : Label) (w : Work) (row : ℕ) (rows position : List ℕ)
    → IsLabelled m l w → w.rows ≡ row ∷ rows
    → Contains (asked_positions (row_of m row)) position
    → some_asks position l.rows ≡ true
first_asks m l w row rows position own is listed =
    let one = listed_are_asked (row_of m row) position listed in
    ap (some_asks position) (own.rows ∙ ap (numbered_rows m) is)
    ∙ ap (λ (o : Option Pattern). not (is_wild o) || some_asks position (numbered_rows m rows))
    one.1

-- what is left to do for every other head
abbrev pub other_work : ℕ → ℕ → List ℕ → Trail → List ℕ → Work
other_work place from wild trail position = record {
  place = place;
  from = from;
  rows = wild;
  trail = trail ++ (position, None) ∷ [];
}

-- the new places of a test are all opened
test_opens : (ws : List Work) (count from : ℕ) (wild : List ℕ) (trail : Trail)
    (position : List ℕ) (hs : List PlainHead) (lists : List (List ℕ)) (i : ℕ)
    → length lists ≡ length hs → i < 1 + length hs
    → Contains (places_of (ws ++ other_work count from wild trail position
    ∷ branch_works (count + 1) from wild trail position hs lists)) (count + i)
test_opens ws count from wild trail position hs lists i counted lt =
    let P : List ℕ → Type 0 = λ places. Contains places (count + i) in
    subst P (sym (map-append (λ (w : Work). w.place) ws
    (other_work count from wild trail position
    ∷ branch_works (count + 1) from wild trail position hs lists)))
    (behind (places_of ws) _ (count + i) (new i lt)) where
      new : (j : ℕ) → j < 1 + length hs
          → Contains (count ∷ places_of
          (branch_works (count + 1) from wild trail position hs lists)) (count + j)
      new zero lt = (0, omega arith, omega arith)
      new (suc j) lt =
          let one = branch_works_at (count + 1) from wild trail position hs lists j counted
          (omega arith) in
          let Q : ℕ → Type 0 =
          Contains (count ∷ places_of
          (branch_works (count + 1) from wild trail position hs lists)) in
          let index : count + 1 + j ≡ count + suc j = omega arith in
          subst Q index (suc one.0, omega (arith, one.1), one.2)

opened_before : (ws more : List Work) (k : ℕ) → Contains (places_of ws) k
    → Contains (places_of (ws ++ more)) k
opened_before ws more k there =
    let P : List ℕ → Type 0 = λ places. Contains places k in
    subst P (sym (map-append (λ (w : Work). w.place) ws more))
    (in_front (places_of ws) (places_of more) k there)

pub draft_test : (m : Matrix) (nodes : List PlainNode) (w : Work) (ws : List Work) (row : ℕ)
    (rows position : List ℕ) (hs : List PlainHead) (lists : List (List ℕ)) (wild : List ℕ)
    → IsDraft m nodes (w ∷ ws) → w.rows ≡ row ∷ rows
    → first_untested w.trail (asked_positions (row_of m row)) ≡ Some position → AreApart hs
    → length lists ≡ length hs
    → ((h : PlainHead) → has_head hs h
    ≡ some_takes (order_of m) position h (numbered_rows m w.rows))
    → HaveLists m position w.rows hs lists → wild ≡ filter (is_wild_at m position) w.rows
    → IsDraft m (set (nodes ++ (try_node w.from ∷ replicate (length hs) (try_node w.from)))
    w.place (test_node position hs (numbers_from (length nodes + 1) (length hs)) (length nodes)))
    (ws ++ other_work (length nodes) w.from wild w.trail position
    ∷ branch_works (length nodes + 1) w.from wild w.trail position hs lists)
draft_test m nodes w ws row rows position hs lists wild (labels, h, (within, own, works)) is some
    apart counted heads have asks =
    let l : Label = labels w.place in
    let more : List Label = test_labels m position l hs in
    let new : ℕ → Label = longer labels (length nodes) more in
    let n : PlainNode =
    test_node position hs (numbers_from (length nodes + 1) (length hs)) (length nodes) in
    let lengths : length more ≡ suc (length hs) =
    ap suc (length-map hs (branch_label (order_of m) position l)) in
    let first = first_is l.found (asked_positions (row_of m row)) position
    (ap (λ (t : Trail). first_untested t (asked_positions (row_of m row))) own.trail ∙ some) in
    let index : length nodes + 0 ≡ length nodes = omega arith in
    let label : new (length nodes) ≡ other_label position l =
    ap new (sym index) ∙ longer-new labels (length nodes) more 0 (other_label position l) refl in
    let are : AreLabels m new position l (length nodes + 1) hs =
    λ i g at. let next : length nodes + 1 + i ≡ length nodes + suc i = omega arith in
    ap new next
    ∙ longer-new labels (length nodes) more (suc i) _ (label_at m position l hs i g at) in
    let L : Label → Type 0 = λ k. IsLabelled m k
    (other_work (length nodes) w.from wild w.trail position) in
    draft_as m new (set nodes w.place n ++ map try_of more)
    (set (nodes ++ (try_node w.from ∷ replicate (length hs) (try_node w.from))) w.place n)
    (ws ++ other_work (length nodes) w.from wild w.trail position
    ∷ branch_works (length nodes + 1) w.from wild w.trail position hs lists)
    (length nodes + length more)
    (ap (λ (ns : List PlainNode). set nodes w.place n ++ ns)
    (test_tries m position l hs w.from own.from)
    ∙ sym (set_in_front nodes (try_node w.from ∷ replicate (length hs) (try_node w.from)) w.place
    n within))
    (labelling_grows m labels nodes w.place (places_of ws) _ more n h within
    (λ i same. let no : ⊥ = cc in no) (
      first_asks m l w row rows position own is first.0,
      first.2 (positions_are_reached (order_of m) l.found (row_of m row)
          (first_fits m l w row rows own is)),
      λ o there. false≢true (sym first.1 ∙ tested_true l.found position o there),
      λ g. heads g ∙ ap (some_takes (order_of m) position g) (sym own.rows),
      branch_places m new (length nodes + length more) w.place position l (length nodes + 1) hs
          apart (omega arith) (omega (arith, lengths)) are,
      within,
      omega (arith, lengths),
      label,
    )
    (λ k there. opened_before ws _ k there)
    (λ i lt. test_opens ws (length nodes) w.from wild w.trail position hs lists i counted
    (omega (arith, lengths))))
    (works_append m new (length nodes + length more) ws _
    (works_grow m labels (length nodes) (length nodes + length more) more ws (omega arith) works) (
      omega (arith, lengths),
      subst L (sym label) (other_labelled m l w (length nodes) position wild own asks),
      branch_works_are m new (length nodes + length more) l w position wild (length nodes + 1) hs
          lists own asks apart (omega (arith, lengths)) are have,
    ))
    (sym (length-append (set nodes w.place n) (map try_of more)
    ∙ ap (λ (c : ℕ). c + length (map try_of more)) (length-set nodes w.place n)
    ∙ ap (λ (c : ℕ). length nodes + c) (length-map more try_of)))

-- ---- the first node

above_numbers : (m k n : ℕ) → m < k → AreAbove m (numbers_from k n)
above_numbers m k zero lt = tt
above_numbers m k (suc n) lt = (lt, above_numbers m (k + 1) n (omega arith))

rising_numbers : (k n : ℕ) → IsRising (numbers_from k n)
rising_numbers k zero = tt
rising_numbers k (suc n) = (above_numbers k (k + 1) n (omega arith), rising_numbers (k + 1) n)

all_fit_nothing : (pairs : List (ℕ × ℕ)) (rows : List Row) → AllFit pairs [] rows
all_fit_nothing pairs [] = tt
all_fit_nothing pairs (r ∷ rows) =
    (λ position o there. absurd (omega (arith, there.1)), all_fit_nothing pairs rows)

pub draft_starts : (m : Matrix) (rows : List ℕ) (n : ℕ) → rows_of m ≡ numbered_rows m rows
    → rows ≡ numbers_from 0 n
    → IsDraft m (try_node 0 ∷ [])
    (record { place = 0; from = 0; rows = rows; trail = [] } ∷ [])
draft_starts m rows n all numbers = (
  λ j. root_label m,
  record {
    root = refl;
    are = λ k node at. first_node k node at;
    forced = λ k i at. inl (opened k i at);
  },
  (
    omega arith,
    record {
      from = refl;
      rows = all;
      trail = refl;
      fit = all_fit_nothing (order_of m) (numbered_rows m rows);
      rising = let P : List ℕ → Type 0 = IsRising in subst P (sym numbers) (rising_numbers 0 n);
    },
    tt,
  ),
) where
  first_node : (k : ℕ) (node : PlainNode) → slice_get (try_node 0 ∷ []) k ≡ Some node
      → IsNode (order_of m) (λ (j : ℕ). root_label m) 1 k (root_label m) node
  first_node zero node at =
      let same : try_node 0 ≡ node = cc in
      let P : PlainNode → Type 0 =
      IsNode (order_of m) (λ (j : ℕ). root_label m) 1 0 (root_label m) in subst P same refl
  first_node (suc k) node at = absurd (let no : ⊥ = cc in no)

  opened : (k i : ℕ) → slice_get (try_node 0 ∷ []) k ≡ Some (try_node i) → Contains (0 ∷ []) k
  opened zero i at = (0, omega arith, refl)
  opened (suc k) i at = absurd (let no : ⊥ = cc in no)
