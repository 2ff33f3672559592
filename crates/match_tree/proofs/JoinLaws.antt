-- The rows that take a head, joined with those that ask nothing.
use Rattle.std.proofs.Common.{◌≡◌, ◌<◌, ℕ, Bool, true, false, List, [], ◌∷◌, ◌++◌}
use Rattle.std.proofs.Common.{Option, Some, None, refl, sym, ◌∙◌, ap, subst, arith}
use Rattle.std.specs.Prelude.{◌&&◌, ◌||◌, if◌then◌else◌, filter}
use Rattle.std.proofs.Math.Path.{fun_ext}
use Rattle.std.proofs.lemmas.Bool.{false≢true, lt-ltb, le-ltb}
use Rattle.term_core.specs.Patterns.{Pattern}
use Rattle.pat_matrix.specs.Heads.{PlainHead, takes}
use Rattle.pat_matrix.specs.Positions.{row_asks}
use Rattle.pat_matrix.specs.Rows.{Row, is_wild, wants, takes_there, specialized, others}
use Rattle.pat_matrix.specs.MatrixView.{row_of, order_of, numbered_rows}
use Rattle.pat_matrix.specs.Groups.{takes_at, is_wild_at}
use Rattle.pat_matrix.specs.declared.matrix.Matrix.{Matrix}
use Rattle.match_tree.specs.Joining.{joined, those_below, those_from}
use Rattle.match_tree.specs.Drafting.{AreAbove, IsRising}

-- ---- rising numbers

above_step : (m : ℕ) (test : ℕ → Bool) (n : ℕ) (ns : List ℕ) (b : Bool) → test n ≡ b → m < n
    → AreAbove m (filter test ns) → AreAbove m (filter test (n ∷ ns))
above_step m test n ns true is lt rest = rw is (lt, rest)
above_step m test n ns false is lt rest = rw is rest

pub above-filter : (m : ℕ) (test : ℕ → Bool) (ns : List ℕ) → AreAbove m ns
    → AreAbove m (filter test ns)
above-filter m test [] h = tt
above-filter m test (n ∷ ns) h =
    above_step m test n ns (test n) refl h.0 (above-filter m test ns h.1)

rising_step : (test : ℕ → Bool) (n : ℕ) (ns : List ℕ) (b : Bool) → test n ≡ b
    → AreAbove n (filter test ns) → IsRising (filter test ns)
    → IsRising (filter test (n ∷ ns))
rising_step test n ns true is first rest = rw is (first, rest)
rising_step test n ns false is first rest = rw is rest

pub rising-filter : (test : ℕ → Bool) (ns : List ℕ) → IsRising ns → IsRising (filter test ns)
rising-filter test [] h = tt
rising-filter test (n ∷ ns) h =
    rising_step test n ns (test n) refl (above-filter n test ns h.0) (rising-filter test ns h.1)

-- ---- joined lists

none_below : (m : ℕ) (ns : List ℕ) → AreAbove m ns → those_below m ns ≡ []
none_below m [] h = refl
none_below m (n ∷ ns) h =
    ap (λ (b : Bool). if b then n ∷ those_below m ns else []) (le-ltb n m (omega (arith, h.0)))

all_from : (m : ℕ) (ns : List ℕ) → AreAbove m ns → those_from m ns ≡ ns
all_from m [] h = refl
all_from m (n ∷ ns) h =
    ap (λ (b : Bool). if b then those_from m ns else n ∷ ns) (le-ltb n m (omega (arith, h.0)))

first_of_own : (n : ℕ) (ms ns : List ℕ) → AreAbove n ns → joined (n ∷ ms) ns ≡ n ∷ joined ms ns
first_of_own n ms ns h =
    ap (λ (xs : List ℕ). xs ++ n ∷ joined ms (those_from n ns)) (none_below n ns h)
    ∙ ap (λ (xs : List ℕ). n ∷ joined ms xs) (all_from n ns h)

first_of_wild : (n : ℕ) (ms ns : List ℕ) → AreAbove n ms → joined ms (n ∷ ns) ≡ n ∷ joined ms ns
first_of_wild n [] ns h = refl
first_of_wild n (m ∷ ms) ns h = rw (lt-ltb n m h.0) refl

joined_step : (p q : ℕ → Bool) (n : ℕ) (ns : List ℕ) (a b : Bool) → p n ≡ a → q n ≡ b
    → (a && b) ≡ false → AreAbove n ns
    → joined (filter p ns) (filter q ns) ≡ filter (λ (m : ℕ). q m || p m) ns
    → joined (filter p (n ∷ ns)) (filter q (n ∷ ns)) ≡ filter (λ (m : ℕ). q m || p m) (n ∷ ns)
joined_step p q n ns true true takes wild both first rest = absurd (false≢true (sym both))
joined_step p q n ns true false takes wild both first rest =
    rw (takes, wild)
    (first_of_own n (filter p ns) (filter q ns) (above-filter n q ns first)
    ∙ ap (λ (xs : List ℕ). n ∷ xs) rest)
joined_step p q n ns false true takes wild both first rest =
    rw (takes, wild)
    (first_of_wild n (filter p ns) (filter q ns) (above-filter n p ns first)
    ∙ ap (λ (xs : List ℕ). n ∷ xs) rest)
joined_step p q n ns false false takes wild both first rest = rw (takes, wild) rest

joined_filters : (p q : ℕ → Bool) (ns : List ℕ) → ((n : ℕ) → (p n && q n) ≡ false)
    → IsRising ns → joined (filter p ns) (filter q ns) ≡ filter (λ (m : ℕ). q m || p m) ns
joined_filters p q [] apart h = refl
joined_filters p q (n ∷ ns) apart h =
    joined_step p q n ns (p n) (q n) refl refl (apart n) h.0 (joined_filters p q ns apart h.1)

-- ---- the rows with these numbers

numbered_step : (m : Matrix) (test : Row → Bool) (n : ℕ) (ns : List ℕ) (b : Bool)
    → test (n, row_of m n) ≡ b
    → filter test (numbered_rows m ns)
    ≡ numbered_rows m (filter (λ (i : ℕ). test (i, row_of m i)) ns)
    → filter test (numbered_rows m (n ∷ ns))
    ≡ numbered_rows m (filter (λ (i : ℕ). test (i, row_of m i)) (n ∷ ns))
numbered_step m test n ns true is rest =
    rw is (ap (λ (rs : List Row). (n, row_of m n) ∷ rs) rest)
numbered_step m test n ns false is rest = rw is rest

filter_numbered : (m : Matrix) (test : Row → Bool) (ns : List ℕ)
    → filter test (numbered_rows m ns)
    ≡ numbered_rows m (filter (λ (i : ℕ). test (i, row_of m i)) ns)
filter_numbered m test [] = refl
filter_numbered m test (n ∷ ns) =
    numbered_step m test n ns (test (n, row_of m n)) refl (filter_numbered m test ns)

apart_there : (pairs : List (ℕ × ℕ)) (h : PlainHead) (o : Option Pattern)
    → (takes_there pairs h o && is_wild o) ≡ false
apart_there pairs h None = refl
apart_there pairs h (Some q) = told (takes pairs q h) where
  told : (b : Bool) → (b && false) ≡ false
  told true = refl
  told false = refl

wants_there : (pairs : List (ℕ × ℕ)) (h : PlainHead) (o : Option Pattern)
    → (is_wild o || takes_there pairs h o) ≡ wants pairs h o
wants_there pairs h None = refl
wants_there pairs h (Some q) = refl

pub joined_specialized : (m : Matrix) (position : List ℕ) (h : PlainHead) (own wild ns : List ℕ)
    → IsRising ns → own ≡ filter (takes_at m position h) ns
    → wild ≡ filter (is_wild_at m position) ns
    → specialized (order_of m) position h (numbered_rows m ns) ≡ numbered_rows m (joined own wild)
joined_specialized m position h own wild ns rising takes asks =
    filter_numbered m (λ (r : Row). wants (order_of m) h (row_asks r.1 position)) ns
    ∙ ap (λ (test : ℕ → Bool). numbered_rows m (filter test ns))
    (fun_ext (λ (n : ℕ). sym (wants_there (order_of m) h (row_asks (row_of m n) position))))
    ∙ sym (ap (numbered_rows m)
    (ap (λ (xs : List ℕ). joined xs wild) takes
    ∙ ap (joined (filter (takes_at m position h) ns)) asks
    ∙ joined_filters (takes_at m position h) (is_wild_at m position) ns
    (λ n. apart_there (order_of m) h (row_asks (row_of m n) position)) rising))

pub joined_rising : (m : Matrix) (position : List ℕ) (h : PlainHead) (own wild ns : List ℕ)
    → IsRising ns → own ≡ filter (takes_at m position h) ns
    → wild ≡ filter (is_wild_at m position) ns → IsRising (joined own wild)
joined_rising m position h own wild ns rising takes asks =
    let P : List ℕ → Type 0 = IsRising in
    subst P
    (sym (ap (λ (xs : List ℕ). joined xs wild) takes
    ∙ ap (joined (filter (takes_at m position h) ns)) asks
    ∙ joined_filters (takes_at m position h) (is_wild_at m position) ns
    (λ n. apart_there (order_of m) h (row_asks (row_of m n) position)) rising))
    (rising-filter _ ns rising)

pub wild_others : (m : Matrix) (position : List ℕ) (wild ns : List ℕ)
    → wild ≡ filter (is_wild_at m position) ns
    → others position (numbered_rows m ns) ≡ numbered_rows m wild
wild_others m position wild ns asks =
    filter_numbered m (λ (r : Row). is_wild (row_asks r.1 position)) ns
    ∙ sym (ap (numbered_rows m) asks)
