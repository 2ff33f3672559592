-- Rows that are tried in order.
use Rattle.std.proofs.Common.{◌≡◌, ◌<◌, ◌≤◌, ◌+◌, ℕ, zero, suc, Bool, List, [], ◌∷◌}
use Rattle.std.proofs.Common.{length, map, drop, get_or, Some, slice_get, refl, sym, ◌∙◌, ap, subst}
use Rattle.std.proofs.Common.{arith}
use Rattle.std.specs.Prelude.{is_some, if◌then◌else◌}
use Rattle.std.specs.Global.{Vec}
use Rattle.std.proofs.lemmas.List.{length-map, drop_all}
use Rattle.term_core.specs.Terms.{Tree}
use Rattle.term_core.specs.Instances.{patterns}
use Rattle.pat_matrix.specs.Collapsed.{AreCollapsed}
use Rattle.pat_matrix.specs.Rows.{Row, numbers_from}
use Rattle.pat_matrix.specs.MatchTrees.{AllCollapsed, matching_rows, rows_from, row_match}
use Rattle.pat_matrix.specs.MatrixView.{rows_of, row_of, order_of, numbered_rows}
use Rattle.pat_matrix.specs.Occurrences.{row_twins}
use Rattle.pat_matrix.specs.PlaceView.{twins_of}
use Rattle.pat_matrix.specs.declared.matrix.Matrix.{Matrix}
use Rattle.pat_matrix.specs.declared.places.Twin.{Twin}
use Rattle.pat_matrix.proofs.Loops.{numbers-rows_at}
use Rattle.pat_matrix.proofs.TreeHits.{rows_from-rising, from_dropped}
use Rattle.match_tree.specs.Walking.{AreWide}
use Rattle.match_tree.proofs.WayLaws.{rising_rows}

numbered_at : (m : Matrix) (k n i : ℕ) → i < n
    → slice_get (numbered_rows m (numbers_from k n)) i ≡ Some (k + i, row_of m (k + i))
numbered_at m k zero i lt = absurd (omega arith)
numbered_at m k (suc n) zero lt =
    ap (λ (j : ℕ). Some (j, row_of m j)) (omega arith)
numbered_at m k (suc n) (suc i) lt =
    numbered_at m (k + 1) n i (omega arith)
    ∙ ap (λ (j : ℕ). Some (j, row_of m j)) (omega arith)

length_numbers : (k n : ℕ) → length (numbers_from k n) ≡ n
length_numbers k zero = refl
length_numbers k (suc n) = ap suc (length_numbers (k + 1) n)

numbers_of : (m : Matrix) (ns : List ℕ) → map (λ (r : Row). r.0) (numbered_rows m ns) ≡ ns
numbers_of m ns = numbers-rows_at m.rows.value.items ns

-- all rows, if none was left out
abbrev pub IsWhole : Matrix → Type 0
IsWhole m = map (λ (r : Row). r.0) (rows_of m) ≡ numbers_from 0 (length (rows_of m))

pub whole_rows : (m : Matrix) → IsWhole m
    → rows_of m ≡ numbered_rows m (numbers_from 0 (length (rows_of m)))
whole_rows m whole =
    ap (numbered_rows m) (sym (numbers_of m m.left.items) ∙ whole)

pub whole_at : (m : Matrix) (i : ℕ) → IsWhole m → i < length (rows_of m)
    → slice_get (rows_of m) i ≡ Some (i, row_of m i)
whole_at m i whole lt =
    ap (λ (rs : List Row). slice_get rs i) (whole_rows m whole)
    ∙ numbered_at m 0 (length (rows_of m)) i lt
    ∙ ap (λ (j : ℕ). Some (j, row_of m j)) (omega arith)

number_at : (k n i : ℕ) → i < n → get_or (numbers_from k n) i 0 ≡ k + i
number_at k zero i lt = absurd (omega arith)
number_at k (suc n) zero lt = omega arith
number_at k (suc n) (suc i) lt = number_at (k + 1) n i (omega arith) ∙ omega arith

pub whole_number : (m : Matrix) (left : List ℕ) (i : ℕ) → IsWhole m
    → left ≡ map (λ (r : Row). r.0) (rows_of m) → i < length left → get_or left i 0 ≡ i
whole_number m left i whole is lt =
    let count : length left ≡ length (rows_of m) =
    ap length is ∙ length-map (rows_of m) (λ (r : Row). r.0) in
    ap (λ (ns : List ℕ). get_or ns i 0) (is ∙ whole)
    ∙ number_at 0 (length (rows_of m)) i (omega arith) ∙ omega arith

pub left_count : (m : Matrix) (left : List ℕ) → left ≡ map (λ (r : Row). r.0) (rows_of m)
    → length left ≡ length (rows_of m)
left_count m left is = ap length is ∙ length-map (rows_of m) (λ (r : Row). r.0)

-- ---- one of the rows

collapsed_at : (rows : List Row) (i : ℕ) (r : Row) → AllCollapsed rows
    → slice_get rows i ≡ Some r → AreCollapsed (patterns r.1)
collapsed_at [] i r h at = absurd (let no : ⊥ = cc in no)
collapsed_at (q ∷ rows) zero r h at =
    let same : q ≡ r = cc in
    let P : Row → Type 0 = λ s. AreCollapsed (patterns s.1) in subst P same h.0
collapsed_at (q ∷ rows) (suc i) r h at = collapsed_at rows i r h.1 at

wide_at : (n : ℕ) (rows : List Row) (i : ℕ) (r : Row) → AreWide n rows
    → slice_get rows i ≡ Some r → length r.1 ≡ n
wide_at n [] i r h at = absurd (let no : ⊥ = cc in no)
wide_at n (q ∷ rows) zero r h at =
    let same : q ≡ r = cc in
    let P : Row → Type 0 = λ s. length s.1 ≡ n in subst P same h.0
wide_at n (q ∷ rows) (suc i) r h at = wide_at n rows i r h.1 at

twins_at : (vs : List (Vec Twin)) (rows : List Row) (i : ℕ) (v : Vec Twin) (r : Row)
    → map (λ (w : Vec Twin). twins_of w.items) vs ≡ map (λ (q : Row). row_twins q.1) rows
    → v ≡ get_or vs i v → i < length vs → slice_get rows i ≡ Some r
    → twins_of v.items ≡ row_twins r.1
twins_at [] rows i v r e is lt at = absurd (omega arith)
twins_at (w ∷ vs) [] i v r e is lt at = absurd (let no : ⊥ = cc in no)
twins_at (w ∷ vs) (q ∷ rows) zero v r e is lt at =
    let same : q ≡ r = cc in
    let first : twins_of w.items ≡ row_twins q.1 = cc in
    ap (λ (x : Vec Twin). twins_of x.items) is ∙ first ∙ ap (λ (s : Row). row_twins s.1) same
twins_at (w ∷ vs) (q ∷ rows) (suc i) v r e is lt at =
    let rest : map (λ (x : Vec Twin). twins_of x.items) vs
    ≡ map (λ (s : Row). row_twins s.1) rows = cc in
    twins_at vs rows i v r rest is (omega arith) at

pub row_collapsed : (m : Matrix) (i : ℕ) → IsWhole m → AllCollapsed (rows_of m)
    → i < length (rows_of m) → AreCollapsed (patterns (row_of m i))
row_collapsed m i whole h lt =
    collapsed_at (rows_of m) i (i, row_of m i) h (whole_at m i whole lt)

pub row_wide : (m : Matrix) (n i : ℕ) → IsWhole m → AreWide n (rows_of m)
    → i < length (rows_of m) → length (row_of m i) ≡ n
row_wide m n i whole h lt = wide_at n (rows_of m) i (i, row_of m i) h (whole_at m i whole lt)

pub own_twins : (m : Matrix) (vs : List (Vec Twin)) (i : ℕ) (v : Vec Twin) → IsWhole m
    → map (λ (w : Vec Twin). twins_of w.items) vs ≡ map (λ (q : Row). row_twins q.1) (rows_of m)
    → v ≡ get_or vs i v → i < length vs → i < length (rows_of m)
    → twins_of v.items ≡ row_twins (row_of m i)
own_twins m vs i v whole e is within lt =
    twins_at vs (rows_of m) i v (i, row_of m i) e is within (whole_at m i whole lt)

pub twins_count : (m : Matrix) (vs : List (Vec Twin))
    → map (λ (w : Vec Twin). twins_of w.items) vs ≡ map (λ (q : Row). row_twins q.1) (rows_of m)
    → length vs ≡ length (rows_of m)
twins_count m vs e =
    sym (length-map vs (λ (w : Vec Twin). twins_of w.items)) ∙ ap length e
    ∙ length-map (rows_of m) (λ (q : Row). row_twins q.1)

-- ---- the rows from one on

from_numbers : (m : Matrix) (k n i : ℕ)
    → rows_from (k + i) (numbered_rows m (numbers_from k n))
    ≡ drop i (numbered_rows m (numbers_from k n))
from_numbers m k zero zero = refl
from_numbers m k zero (suc i) = refl
from_numbers m k (suc n) zero =
    rows_from-rising (k + 0) k (numbered_rows m (numbers_from k (suc n))) (omega arith)
    (rising_rows k (suc n) (numbered_rows m (numbers_from k (suc n)))
    (numbers_of m (numbers_from k (suc n))))
from_numbers m k (suc n) (suc i) =
    from_dropped (k + suc i) (k, row_of m k) (numbered_rows m (numbers_from (k + 1) n))
    (omega arith)
    ∙ ap (λ (j : ℕ). rows_from j (numbered_rows m (numbers_from (k + 1) n))) (omega arith)
    ∙ from_numbers m (k + 1) n i

drop_numbers : (m : Matrix) (k n i : ℕ) → i < n
    → drop i (numbered_rows m (numbers_from k n))
    ≡ (k + i, row_of m (k + i)) ∷ drop (i + 1) (numbered_rows m (numbers_from k n))
drop_numbers m k zero i lt = absurd (omega arith)
drop_numbers m k (suc n) zero lt =
    ap (λ (j : ℕ). (j, row_of m j) ∷ numbered_rows m (numbers_from (k + 1) n)) (omega arith)
drop_numbers m k (suc n) (suc i) lt =
    let next : suc i + 1 ≡ suc (i + 1) = omega arith in
    rw next
    (drop_numbers m (k + 1) n i (omega arith)
    ∙ ap (λ (j : ℕ). (j, row_of m j) ∷ drop (i + 1) (numbered_rows m (numbers_from (k + 1) n)))
    (omega arith))

pub whole_from : (m : Matrix) (i : ℕ) → IsWhole m
    → rows_from i (rows_of m) ≡ drop i (numbered_rows m (numbers_from 0 (length (rows_of m))))
whole_from m i whole =
    ap (rows_from i) (whole_rows m whole)
    ∙ ap (λ (j : ℕ). rows_from j (numbered_rows m (numbers_from 0 (length (rows_of m)))))
    (omega arith)
    ∙ from_numbers m 0 (length (rows_of m)) i

-- the trial of one row
pub one_row : (m : Matrix) (ts : List Tree) (i : ℕ) (b : Bool) → IsWhole m
    → i < length (rows_of m) → b ≡ is_some (row_match (order_of m) (row_of m i) ts)
    → matching_rows (order_of m) (rows_from i (rows_of m)) ts
    ≡ (if b then i ∷ matching_rows (order_of m) (rows_from (i + 1) (rows_of m)) ts
    else matching_rows (order_of m) (rows_from (i + 1) (rows_of m)) ts)
one_row m ts i b whole lt is =
    let n : ℕ = length (rows_of m) in
    let index : 0 + i ≡ i = omega arith in
    ap (λ (rs : List Row). matching_rows (order_of m) rs ts)
    (whole_from m i whole ∙ drop_numbers m 0 n i lt
    ∙ ap (λ (j : ℕ). (j, row_of m j) ∷ drop (i + 1) (numbered_rows m (numbers_from 0 n))) index
    ∙ ap (λ (rs : List Row). (i, row_of m i) ∷ rs) (sym (whole_from m (i + 1) whole)))
    ∙ ap (λ (c : Bool).
    if c then i ∷ matching_rows (order_of m) (rows_from (i + 1) (rows_of m)) ts
    else matching_rows (order_of m) (rows_from (i + 1) (rows_of m)) ts) (sym is)

pub no_row : (m : Matrix) (ts : List Tree) (i : ℕ) → IsWhole m → length (rows_of m) ≤ i
    → matching_rows (order_of m) (rows_from i (rows_of m)) ts ≡ []
no_row m ts i whole past =
    let numbered : ℕ → Row = λ j. (j, row_of m j) in
    ap (λ (rs : List Row). matching_rows (order_of m) rs ts)
    (whole_from m i whole
    ∙ drop_all i (numbered_rows m (numbers_from 0 (length (rows_of m))))
    (omega (
      arith,
      length-map (numbers_from 0 (length (rows_of m))) numbered,
      length_numbers 0 (length (rows_of m)),
    )))
