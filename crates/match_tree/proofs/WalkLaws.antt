-- The steps of a walk: from a test to the branch of the head that is there, and from a hit to the
-- later rows.
use Rattle.std.proofs.Common.{◌≡◌, ◌⊎◌, inl, inr, ◌+◌, ◌<◌, ℕ, Bool, true, false}
use Rattle.std.proofs.Common.{List, [], ◌∷◌, ◌++◌, length, Option, Some, None, option_map}
use Rattle.std.proofs.Common.{slice_get}
use Rattle.std.proofs.Common.{Contains, refl, sym, ◌∙◌, ap, subst, arith}
use Rattle.std.specs.Prelude.{◌||◌, filter, is_some, if◌then◌else◌, not}
use Rattle.std.specs.Option.{option_and_then}
use Rattle.std.proofs.lemmas.Bool.{false≢true}
use Rattle.std.proofs.lemmas.Option.{slice_get_within}
use Rattle.term_core.specs.Terms.{Tree, leaf, node, inj}
use Rattle.term_core.specs.Forests.{children}
use Rattle.term_core.specs.Patterns.{Pattern}
use Rattle.rule_core.proofs.MatchFound.{after}
use Rattle.pat_matrix.specs.Heads.{PlainHead, head_eq, root, takes}
use Rattle.pat_matrix.specs.Positions.{asked, row_asks, subject_at}
use Rattle.pat_matrix.specs.Rows.{Row, is_wild, specialized, others, some_takes, width}
use Rattle.pat_matrix.specs.MatchTrees.{Findings, IsFound, IsReached, AllCollapsed, AreRising}
use Rattle.pat_matrix.specs.MatchTrees.{matching_rows, rows_from, row_match, some_asks}
use Rattle.pat_matrix.specs.MatrixLaws.{takes_root}
use Rattle.pat_matrix.specs.Occurrences.{row_twins, twins_agree}
use Rattle.pat_matrix.proofs.HeadLaws.{head_eq-true}
use Rattle.pat_matrix.proofs.FindingLaws.{one_or_last}
use Rattle.pat_matrix.proofs.LinearRows.{RowAgrees, subject_at-append}
use Rattle.pat_matrix.proofs.TreeHits.{all_collapsed-filter, rising-filter, after_hit}
use Rattle.pat_matrix.proofs.TreeHits.{unwanted_no_matter, others_no_matter}
use Rattle.pat_matrix.proofs.TwinLaws.{found_match_by_twins}
use Rattle.match_tree.specs.Labels.{Label}
use Rattle.match_tree.specs.FlatNodes.{has_head, AreBranchPlaces}
use Rattle.match_tree.specs.Walking.{AreTrue, AreWide, Tells, find_place}
use Rattle.match_tree.proofs.FlatLaws.{there_is}

-- ---- the term at a tested position

children_of_root : (t : Tree) → length (children t) ≡ width (root t)
children_of_root (leaf s v) = refl
children_of_root (node f ts) = refl
children_of_root (inj a b t) = refl

source : {A B : Type 0} (f : A → B) (o : Option A) (y : B) → option_map f o ≡ Some y
    → (x : A) × ((o ≡ Some x) × (f x ≡ y))
source f None y e = absurd (let no : ⊥ = cc in no)
source f (Some x) y e = (x, (refl, cc))

asked_within : (i n : ℕ) (r : Row) (o : Option Pattern) → length r.1 ≡ n
    → row_asks r.1 (i ∷ []) ≡ o → is_wild o ≡ false → i < n
asked_within i n r None wide is asks = absurd (false≢true (sym asks))
asked_within i n r (Some q) wide is asks =
    let next = after (λ (p : Pattern). asked p []) (slice_get r.1 i) q is in
    let within : i < length r.1 = slice_get_within r.1 i next.0 next.1.0 in omega arith

asked_step : (i n : ℕ) (r : Row) (rest b : Bool) → is_wild (row_asks r.1 (i ∷ [])) ≡ b
    → length r.1 ≡ n → (not b || rest) ≡ true → (rest ≡ true → i < n) → i < n
asked_step i n r rest false is wide e later =
    asked_within i n r (row_asks r.1 (i ∷ [])) wide refl is
asked_step i n r rest true is wide e later = later e

asked_subject : (i n : ℕ) (rows : List Row) → AreWide n rows
    → some_asks (i ∷ []) rows ≡ true → i < n
asked_subject i n [] wide e = absurd (false≢true e)
asked_subject i n (r ∷ rows) wide e =
    asked_step i n r (some_asks (i ∷ []) rows) (is_wild (row_asks r.1 (i ∷ []))) refl wide.0 e
    (asked_subject i n rows wide.1)

-- a tested position is there
pub reached_is_there : (ts : List Tree) (found : Findings) (rows : List Row) (position : List ℕ)
    → AreTrue ts found → AreWide (length ts) rows → some_asks position rows ≡ true
    → IsReached found position → (t : Tree) × (subject_at ts position ≡ Some t)
reached_is_there ts found rows position true_of wide asks (parent, i, is, inl none) =
    let P : List ℕ → Type 0 = λ x. some_asks x rows ≡ true in
    let own : position ≡ i ∷ [] = is ∙ ap (λ (x : List ℕ). x ++ i ∷ []) none in
    let t = there_is ts i (asked_subject i (length ts) rows wide (subst P own asks)) in (
      t.0,
      ap (subject_at ts) own
          ∙ ap (option_and_then (λ (u : Tree). Some u)) t.1,
    )
reached_is_there ts found rows position true_of wide asks (parent, i, is, inr (h, there, lt)) =
    let up = source root (subject_at ts parent) h (true_of parent h there) in
    let count : length (children up.0) ≡ width h =
    children_of_root up.0 ∙ ap width up.1.1 in
    let t = there_is (children up.0) i (omega arith) in (
      t.0,
      ap (subject_at ts) is ∙ subject_at-append ts up.0 parent i up.1.0 ∙ t.1,
    )

-- ---- what was found stays true

are_true-more : (ts : List Tree) (found : Findings) (position : List ℕ) (o : Option PlainHead)
    → AreTrue ts found
    → ((h : PlainHead) → o ≡ Some h → option_map root (subject_at ts position) ≡ Some h)
    → AreTrue ts (found ++ (position, o) ∷ [])
are_true-more ts found position o old own place h there =
    told (one_or_last found (position, o) (place, Some h) there) where
      told : Contains found (place, Some h)
          ⊎ ◌≡◌ {A = List ℕ × Option PlainHead} (position, o) (place, Some h)
          → option_map root (subject_at ts place) ≡ Some h
      told (inl before) = old place h before
      told (inr same) =
          ap (λ (x : List ℕ). option_map root (subject_at ts x))
          (sym (ap (λ (e : List ℕ × Option PlainHead). e.0) same))
          ∙ own h (ap (λ (e : List ℕ × Option PlainHead). e.1) same)

are_wide-step : (n : ℕ) (keep : Row → Bool) (r : Row) (rows : List Row) (b : Bool) → keep r ≡ b
    → length r.1 ≡ n → AreWide n (filter keep rows) → AreWide n (filter keep (r ∷ rows))
are_wide-step n keep r rows true is first rest = rw is (first, rest)
are_wide-step n keep r rows false is first rest = rw is rest

are_wide-filter : (n : ℕ) (keep : Row → Bool) (rows : List Row) → AreWide n rows
    → AreWide n (filter keep rows)
are_wide-filter n keep [] h = tt
are_wide-filter n keep (r ∷ rows) h =
    are_wide-step n keep r rows (keep r) refl h.0 (are_wide-filter n keep rows h.1)

-- ---- steps

-- a test leads to the branch of the head that is there
pub branch_tells : (pairs : List (ℕ × ℕ)) (all : List Row) (ts : List Tree) (l : Label)
    (position : List ℕ) (t : Tree) → Tells pairs all ts l → subject_at ts position ≡ Some t
    → Tells pairs all ts (record {
      from = l.from;
      found = l.found ++ (position, Some (root t)) ∷ [];
      rows = specialized pairs position (root t) l.rows;
    })
branch_tells pairs all ts l position t h there = record {
  collapsed = all_collapsed-filter _ l.rows h.collapsed;
  rising = rising-filter _ l.from l.rows h.rising;
  wide = are_wide-filter (length ts) _ l.rows h.wide;
  true_of = are_true-more ts l.found position (Some (root t)) h.true_of
      (λ k is. ap (option_map root) there ∙ is);
  same = h.same ∙ sym (unwanted_no_matter pairs position t l.rows ts h.collapsed there);
}

-- or to the place for every other head
pub other_tells : (pairs : List (ℕ × ℕ)) (all : List Row) (ts : List Tree) (l : Label)
    (position : List ℕ) (t : Tree) → Tells pairs all ts l → subject_at ts position ≡ Some t
    → some_takes pairs position (root t) l.rows ≡ false
    → Tells pairs all ts (record {
      from = l.from;
      found = l.found ++ (position, None) ∷ [];
      rows = others position l.rows;
    })
other_tells pairs all ts l position t h there none = record {
  collapsed = all_collapsed-filter _ l.rows h.collapsed;
  rising = rising-filter _ l.from l.rows h.rising;
  wide = are_wide-filter (length ts) _ l.rows h.wide;
  true_of = are_true-more ts l.found position None h.true_of
      (λ k is. let no : ⊥ = cc in absurd no);
  same = h.same ∙ sym (others_no_matter pairs position (Some t) l.rows ts h.collapsed there none);
}

-- a hit leads to the later rows, whether it matches or not
pub later_tells : (pairs : List (ℕ × ℕ)) (all : List Row) (ts : List Tree) (l : Label) (r : ℕ)
    (ps : List Pattern) (later : List Row) → Tells pairs all ts l → l.rows ≡ (r, ps) ∷ later
    → Tells pairs all ts (record { from = r + 1; found = l.found; rows = later })
later_tells pairs all ts l r ps later h is =
    let A : List Row → Type 0 = AllCollapsed in
    let B : List Row → Type 0 = AreRising l.from in
    let C : List Row → Type 0 = AreWide (length ts) in
    let D : List Row → Type 0 =
    λ rs. matching_rows pairs (rows_from l.from all) ts ≡ matching_rows pairs rs ts in
    let coll : AllCollapsed ((r, ps) ∷ later) = subst A is h.collapsed in
    let up : AreRising l.from ((r, ps) ∷ later) = subst B is h.rising in
    let wide : AreWide (length ts) ((r, ps) ∷ later) = subst C is h.wide in record {
      collapsed = coll.1;
      rising = up.1;
      wide = wide.1;
      true_of = h.true_of;
      same = after_hit pairs all l.from r ps later ts up (subst D is h.same);
    }

-- the row of a hit has every head for which it asks
pub found_row_agrees : (pairs : List (ℕ × ℕ)) (ts : List Tree) (found : Findings)
    (ps : List Pattern) → AreTrue ts found → IsFound pairs found ps → RowAgrees pairs ps ts
found_row_agrees pairs ts found ps true_of whole position q asks =
    let one = whole position q asks in
    let up = source root (subject_at ts position) one.0 (true_of position one.0 one.1) in
    ap (takes_root pairs q) up.1.0 ∙ ap (takes pairs q) up.1.1 ∙ one.2

-- so it matches exactly if its twins agree
pub hit_matches : (pairs : List (ℕ × ℕ)) (all : List Row) (ts : List Tree) (l : Label) (r : ℕ)
    (ps : List Pattern) (later : List Row) → Tells pairs all ts l → l.rows ≡ (r, ps) ∷ later
    → IsFound pairs l.found ps
    → is_some (row_match pairs ps ts) ≡ twins_agree ts (row_twins ps)
hit_matches pairs all ts l r ps later h is whole =
    let A : List Row → Type 0 = AllCollapsed in
    let C : List Row → Type 0 = AreWide (length ts) in
    let coll : AllCollapsed ((r, ps) ∷ later) = subst A is h.collapsed in
    let wide : AreWide (length ts) ((r, ps) ∷ later) = subst C is h.wide in
    found_match_by_twins pairs ps ts coll.0 wide.0
    (found_row_agrees pairs ts l.found ps h.true_of whole)

-- the rows from the label's number on that match: the hit's row first, if it matches
pub hit_comes_first : (pairs : List (ℕ × ℕ)) (all : List Row) (ts : List Tree) (l : Label) (r : ℕ)
    (ps : List Pattern) (later : List Row) (b : Bool) → Tells pairs all ts l
    → l.rows ≡ (r, ps) ∷ later → is_some (row_match pairs ps ts) ≡ b
    → matching_rows pairs (rows_from l.from all) ts
    ≡ (if b then r ∷ matching_rows pairs (rows_from (r + 1) all) ts
    else matching_rows pairs (rows_from (r + 1) all) ts)
hit_comes_first pairs all ts l r ps later b h is matches =
    let next = later_tells pairs all ts l r ps later h is in
    h.same ∙ ap (λ (rs : List Row). matching_rows pairs rs ts) is
    ∙ ap (λ (c : Bool). if c then r ∷ matching_rows pairs later ts
    else matching_rows pairs later ts) matches
    ∙ ap (λ (ns : List ℕ). if b then r ∷ ns else ns) (sym next.same)

-- ---- branches

pub found_place : (pairs : List (ℕ × ℕ)) (labels : ℕ → Label) (count k : ℕ) (position : List ℕ)
    (l : Label) (hs : List PlainHead) (js : List ℕ) (g : PlainHead) (j : ℕ)
    → AreBranchPlaces pairs labels count k position l hs js → find_place hs js g ≡ Some j
    → (k < j) × (j < count)
    × (labels j ≡ record {
      from = l.from;
      found = l.found ++ (position, Some g) ∷ [];
      rows = specialized pairs position g l.rows;
    })
found_place pairs labels count k position l [] js g j h e = absurd (let no : ⊥ = cc in no)
found_place pairs labels count k position l (d ∷ hs) [] g j h e = absurd h
found_place pairs labels count k position l (d ∷ hs) (i ∷ js) g j (once, lt, within, is, rest) e =
    told (head_eq d g) refl e (found_place pairs labels count k position l hs js g j rest) where
      Leads : ℕ → PlainHead → Type 0
      Leads n c =
          (k < n) × (n < count)
          × (labels n ≡ record {
            from = l.from;
            found = l.found ++ (position, Some c) ∷ [];
            rows = specialized pairs position c l.rows;
          })

      told : (b : Bool) → head_eq d g ≡ b → (if b then Some i else find_place hs js g) ≡ Some j
          → (find_place hs js g ≡ Some j → Leads j g) → Leads j g
      told true same here later =
          let place : i ≡ j = cc in
          let P : ℕ → Type 0 = λ n. Leads n d in
          let Q : PlainHead → Type 0 = λ c. Leads j c in
          subst Q (head_eq-true d g same) (subst P place (lt, within, is))
      told false same here later = later here

pub no_place : (pairs : List (ℕ × ℕ)) (labels : ℕ → Label) (count k : ℕ) (position : List ℕ)
    (l : Label) (hs : List PlainHead) (js : List ℕ) (g : PlainHead)
    → AreBranchPlaces pairs labels count k position l hs js → find_place hs js g ≡ None
    → has_head hs g ≡ false
no_place pairs labels count k position l [] js g h e = refl
no_place pairs labels count k position l (d ∷ hs) [] g h e = absurd h
no_place pairs labels count k position l (d ∷ hs) (i ∷ js) g (once, lt, within, is, rest) e =
    told (head_eq d g) e (no_place pairs labels count k position l hs js g rest) where
      told : (b : Bool) → (if b then Some i else find_place hs js g) ≡ None
          → (find_place hs js g ≡ None → has_head hs g ≡ false)
          → (b || has_head hs g) ≡ false
      told true here later = absurd (let no : ⊥ = cc in no)
      told false here later = later here
