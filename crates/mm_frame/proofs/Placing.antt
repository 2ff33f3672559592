-- Places of elements that pass a test, and what is at ascending places.
use Rattle.std.proofs.Common.{◌≡◌, ℕ, zero, suc, ◌+◌, ◌-◌, ◌<◌, ◌≤◌, length, Bool, true, false}
use Rattle.std.proofs.Common.{List, [], ◌∷◌, ◌++◌, refl, ap, sym, ◌∙◌, arith, subst}
use Rattle.std.specs.Prelude.{◌||◌, nat_eq, filter, flat_map, if◌then◌else◌, slice_get, slice_index}
use Rattle.std.specs.Prelude.{cond, Some, None}
use Rattle.std.specs.List.{dedup, dedup_from}
use Rattle.std.specs.List.Sorted.{IsPermutation, IsStrictlyIncreasing}
use Rattle.std.proofs.lemmas.Bool.{eqb-true, eq-eqb}
use Rattle.std.proofs.lemmas.List.Sorted.{list_any-IsPermutation}
use Rattle.mm_frame.specs.PlainFrames.{has_number}
use Rattle.mm_frame.specs.Places.{places_from, places_of, passes, found_at}

pub places-push : {X : Type 0} (test : X → Bool) (at : ℕ) (xs : List X) (x : X)
    → places_from test at (xs ++ x ∷ [])
    ≡ places_from test at xs ++ (if test x then (at + length xs) ∷ [] else [])
places-push test at [] x =
    let same : at ≡ at + 0 = omega arith in ap (λ n. if test x then n ∷ [] else []) same
places-push test at (y ∷ xs) x = go (test y) (places-push test (at + 1) xs x)
  where
    next : (at + 1) + length xs ≡ at + length (y ∷ xs)
    next = omega arith

    go : (b : Bool)
        → places_from test (at + 1) (xs ++ x ∷ [])
        ≡ places_from test (at + 1) xs ++ (if test x then ((at + 1) + length xs) ∷ [] else [])
        → (if b then at ∷ places_from test (at + 1) (xs ++ x ∷ [])
        else places_from test (at + 1) (xs ++ x ∷ []))
        ≡ (if b then at ∷ places_from test (at + 1) xs else places_from test (at + 1) xs)
        ++ (if test x then (at + length (y ∷ xs)) ∷ [] else [])
    go true is = ap (λ (ns : List ℕ). at ∷ ns) is
        ∙ ap (λ n. at ∷ (places_from test (at + 1) xs ++ (if test x then n ∷ [] else []))) next
    go false is =
        is ∙ ap (λ n. places_from test (at + 1) xs ++ (if test x then n ∷ [] else [])) next

or-nothing : (a b : Bool) → a ≡ false → b ≡ false → (a || b) ≡ false
or-nothing a b e f = rw (e, f) refl

other : (m n : ℕ) → m < n → nat_eq m n ≡ false
other m n less = go (nat_eq m n) refl
  where
    go : (b : Bool) → nat_eq m n ≡ b → b ≡ false
    go true is = let same : m ≡ n = eqb-true m n is in absurd (omega arith)
    go false is = refl

other-way : (m n : ℕ) → n < m → nat_eq m n ≡ false
other-way m n less = go (nat_eq m n) refl
  where
    go : (b : Bool) → nat_eq m n ≡ b → b ≡ false
    go true is = let same : m ≡ n = eqb-true m n is in absurd (omega arith)
    go false is = refl

above-of : (m n : ℕ) → nat_eq m n ≡ false → m ≤ n → m < n
above-of m n is most =
    let differ : (m ≡ n) → ⊥ =
    λ e. (let same : nat_eq m n ≡ true = eq-eqb m n e in
    let wrong : true ≡ false = sym same ∙ is in let z : ⊥ = cc in z) in
    omega (arith, most, differ)

itself : (n : ℕ) → nat_eq n n ≡ true
itself n = eq-eqb n n refl

-- no place is below the first place of the list
places-low : {X : Type 0} (test : X → Bool) (at : ℕ) (xs : List X) (i : ℕ) → i < at
    → has_number (places_from test at xs) i ≡ false
places-low test at [] i low = refl
places-low test at (x ∷ xs) i low = go (test x) (places-low test (at + 1) xs i (omega arith))
  where
    go : (b : Bool) → has_number (places_from test (at + 1) xs) i ≡ false
        → has_number (if b then at ∷ places_from test (at + 1) xs else places_from test (at + 1) xs)
        i ≡ false
    go true rest = or-nothing _ _ (other-way at i low) rest
    go false rest = rest

places-has-from : {X : Type 0} (test : X → Bool) (at : ℕ) (xs : List X) (k : ℕ)
    → has_number (places_from test at xs) (at + k) ≡ passes test (slice_get xs k)
places-has-from test at [] k = refl
places-has-from test at (x ∷ xs) zero = go (test x)
  where
    same : at ≡ at + 0
    same = omega arith

    go : (b : Bool)
        → has_number (if b then at ∷ places_from test (at + 1) xs else places_from test (at + 1) xs)
        (at + 0) ≡ b
    go true =
        ap (λ b. b || has_number (places_from test (at + 1) xs) (at + 0))
        (ap (nat_eq at) (sym same) ∙ itself at)
    go false = ap (has_number (places_from test (at + 1) xs)) (sym same)
        ∙ places-low test (at + 1) xs at (omega arith)
places-has-from test at (x ∷ xs) (suc k) = go (test x) (places-has-from test (at + 1) xs k)
  where
    next : (at + 1) + k ≡ at + suc k
    next = omega arith

    go : (b : Bool)
        → has_number (places_from test (at + 1) xs) ((at + 1) + k) ≡ passes test (slice_get xs k)
        → has_number (if b then at ∷ places_from test (at + 1) xs else places_from test (at + 1) xs)
        (at + suc k) ≡ passes test (slice_get xs k)
    go true rest =
        ap (λ b. b || has_number (places_from test (at + 1) xs) (at + suc k))
        (other at (at + suc k) (omega arith))
        ∙ ap (has_number (places_from test (at + 1) xs)) (sym next) ∙ rest
    go false rest = ap (has_number (places_from test (at + 1) xs)) (sym next) ∙ rest

-- a place is one of them if and only if its element passes
pub places-has : {X : Type 0} (test : X → Bool) (xs : List X) (i : ℕ)
    → has_number (places_of test xs) i ≡ passes test (slice_get xs i)
places-has test xs i =
    let same : 0 + i ≡ i = omega arith in
    ap (has_number (places_of test xs)) (sym same) ∙ places-has-from test 0 xs i

-- numbers that ascend, none of them below the given one
abbrev pub Rises : ℕ → List ℕ → Type 0
Rises at [] = Unit {0}
Rises at (n ∷ ns) = (at ≤ n) × Rises (n + 1) ns

behind : (n m : ℕ) (ns : List ℕ) → IsStrictlyIncreasing (n ∷ (m ∷ ns))
    → IsStrictlyIncreasing (m ∷ ns)
behind n m ns up =
    λ k low. let next : suc k + 1 ≡ suc (k + 1) = omega arith in
    subst (λ j. slice_index (m ∷ ns) k < slice_index (n ∷ (m ∷ ns)) j) next
    (up (suc k) (omega (arith, low)))

rises-behind : (n : ℕ) (ns : List ℕ) → IsStrictlyIncreasing (n ∷ ns) → Rises (n + 1) ns
rises-behind n [] up = tt
rises-behind n (m ∷ ns) up =
    (omega (arith, up 0 (omega arith)), rises-behind m ns (behind n m ns up))

pub rises : (ns : List ℕ) → IsStrictlyIncreasing ns → Rises 0 ns
rises [] up = tt
rises (n ∷ ns) up = (omega arith, rises-behind n ns up)

rises-low : (at : ℕ) (ns : List ℕ) (i : ℕ) → Rises at ns → i < at → has_number ns i ≡ false
rises-low at [] i up low = refl
rises-low at (n ∷ ns) i up low =
    or-nothing _ _ (other-way n i (omega (arith, up.0)))
    (rises-low (n + 1) ns i up.1 (omega (arith, up.0)))

abbrev Stand : {X : Type 0} → List X → ℕ → List X → Type 0
Stand all at xs = (k : ℕ) → slice_get all (at + k) ≡ slice_get xs k

abbrev Has : {X : Type 0} → (X → Bool) → List X → ℕ → List ℕ → Type 0
Has test all at ns = (i : ℕ) → at ≤ i → has_number ns i ≡ passes test (slice_get all i)

abbrev picked : {X : Type 0} → List X → List ℕ → List X
picked all ns = flat_map (λ i. found_at (slice_get all i)) ns

later : {X : Type 0} (all : List X) (at : ℕ) (x : X) (xs : List X) → Stand all at (x ∷ xs)
    → Stand all (at + 1) xs
later all at x xs stand =
    λ k. let same : (at + 1) + k ≡ at + suc k = omega arith in
    ap (slice_get all) same ∙ stand (suc k)

here : {X : Type 0} (all : List X) (at : ℕ) (x : X) (xs : List X) → Stand all at (x ∷ xs)
    → slice_get all at ≡ Some x
here all at x xs stand = let same : at ≡ at + 0 = omega arith in ap (slice_get all) same ∙ stand 0

filter-from : {X : Type 0} (test : X → Bool) (all xs : List X) (at : ℕ) (ns : List ℕ)
    → Stand all at xs → Rises at ns → Has test all at ns → picked all ns ≡ filter test xs
filter-from test all [] at [] stand up has = refl
filter-from test all [] at (n ∷ ns) stand up has =
    let far : slice_get all n ≡ None =
    let same : n ≡ at + (n - at) = omega (arith, up.0) in
    ap (slice_get all) same ∙ stand (n - at) in
    let found : (nat_eq n n || has_number ns n) ≡ true =
    ap (λ b. b || has_number ns n) (itself n) in
    absurd (let wrong : true ≡ false = sym found ∙ has n up.0 ∙ ap (passes test) far in
    let z : ⊥ = cc in z)
filter-from test all (x ∷ xs) at [] stand up has =
    let none : test x ≡ false =
    ap (passes test) (sym (here all at x xs stand)) ∙ sym (has at (omega arith)) in
    filter-from test all xs (at + 1) [] (later all at x xs stand) tt
    (λ i high. has i (omega (arith, high))) ∙ (rw none refl)
filter-from test all (x ∷ xs) at (n ∷ ns) stand up has =
    go (nat_eq at n) refl
    (λ up has. filter-from test all xs (at + 1) ns (later all at x xs stand) up has)
    (λ up has. filter-from test all xs (at + 1) (n ∷ ns) (later all at x xs stand) up has)
  where
    stands : slice_get all at ≡ Some x
    stands = here all at x xs stand

    go : (b : Bool) → nat_eq at n ≡ b
        → (Rises (at + 1) ns → Has test all (at + 1) ns → picked all ns ≡ filter test xs)
        → (Rises (at + 1) (n ∷ ns) → Has test all (at + 1) (n ∷ ns)
        → picked all (n ∷ ns) ≡ filter test xs) → picked all (n ∷ ns) ≡ filter test (x ∷ xs)
    go true is behind from =
        let same : at ≡ n = eqb-true at n is in
        let kept : test x ≡ true =
        ap (passes test) (sym stands) ∙ sym (has at (omega arith))
        ∙ ap (λ m. nat_eq m at || has_number ns at) (sym same)
        ∙ ap (λ b. b || has_number ns at) (itself at) in
        let rest : picked all ns ≡ filter test xs =
        behind (subst (λ m. Rises (m + 1) ns) (sym same) up.1) (λ i high. ap
        (λ b. b || has_number ns i) (sym (other n i (omega (arith, high, same))))
        ∙ has i (omega (arith, high))) in
        ap (λ m. found_at (slice_get all m) ++ picked all ns) (sym same)
        ∙ ap (λ o. found_at o ++ picked all ns) stands ∙ ap (λ ys. x ∷ ys) rest ∙ (rw kept refl)
    go false is behind from =
        let above : at < n = above-of at n is up.0 in
        let none : test x ≡ false =
        ap (passes test) (sym stands) ∙ sym (has at (omega arith))
        ∙ or-nothing _ _ (other-way n at above)
        (rises-low (n + 1) ns at up.1 (omega (arith, above))) in
        from (omega (arith, above), up.1) (λ i high. has i (omega (arith, high))) ∙ (rw none refl)

-- if ascending places are exactly those of the elements that pass, their elements are the elements
-- that pass
pub places-filter : {X : Type 0} (test : X → Bool) (xs : List X) (ns : List ℕ)
    → IsStrictlyIncreasing ns → ((i : ℕ) → has_number ns i ≡ passes test (slice_get xs i))
    → flat_map (λ i. found_at (slice_get xs i)) ns ≡ filter test xs
places-filter test xs ns up has =
    filter-from test xs xs 0 ns (λ k. let same : 0 + k ≡ k = omega arith in ap (slice_get xs) same)
    (rises ns up) (λ i high. has i)

-- what is left of repeated numbers

dedup_from-has : (k : ℕ) (ns : List ℕ) (n : ℕ)
    → has_number (dedup_from nat_eq k ns) n ≡ (nat_eq k n || has_number ns n)
dedup_from-has k [] n = refl
dedup_from-has k (m ∷ ns) n = go (nat_eq m k) refl (dedup_from-has k ns n) (dedup_from-has m ns n)
  where
    twice : (a b : Bool) → (a || b) ≡ (a || (a || b))
    twice true b = refl
    twice false b = refl

    go : (b : Bool) → nat_eq m k ≡ b
        → has_number (dedup_from nat_eq k ns) n ≡ (nat_eq k n || has_number ns n)
        → has_number (dedup_from nat_eq m ns) n ≡ (nat_eq m n || has_number ns n)
        → has_number (cond b (dedup_from nat_eq k ns) (k ∷ dedup_from nat_eq m ns)) n
        ≡ (nat_eq k n || (nat_eq m n || has_number ns n))
    go true is kept rest =
        let same : m ≡ k = eqb-true m k is in
        kept ∙ twice (nat_eq k n) (has_number ns n)
        ∙ ap (λ j. nat_eq k n || (nat_eq j n || has_number ns n)) (sym same)
    go false is kept rest = ap (λ b. nat_eq k n || b) rest

pub dedup-has : (ns : List ℕ) (n : ℕ) → has_number (dedup nat_eq ns) n ≡ has_number ns n
dedup-has [] n = refl
dedup-has (m ∷ ns) n = dedup_from-has m ns n

-- sorting numbers and removing repeated ones keeps the same numbers
pub sorted-has : (xs ys zs : List ℕ) → IsPermutation xs ys → zs ≡ dedup nat_eq ys → (n : ℕ)
    → has_number zs n ≡ has_number xs n
sorted-has xs ys zs moved is n = ap (λ (ms : List ℕ). has_number ms n) is ∙ dedup-has ys n
    ∙ sym (list_any-IsPermutation (λ m. nat_eq m n) xs ys moved)
