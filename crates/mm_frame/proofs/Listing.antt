-- Lists of the groups that numbers are in, as groups come and go, and searches in them.
use Rattle.std.proofs.Common.{◌≡◌, ℕ, zero, suc, ◌+◌, ◌-◌, ◌<◌, ◌≤◌, length, take, set, get_or}
use Rattle.std.proofs.Common.{Bool, true, false, List, [], ◌∷◌, ◌++◌, refl, ap, sym, ◌∙◌, arith}
use Rattle.std.proofs.Common.{subst, ⊎_elim}
use Rattle.std.specs.Prelude.{◌||◌, nat_eq, if◌then◌else◌, slice_get, Some, None, Result, Ok, Err}
use Rattle.std.specs.Prelude.{is_ok, MatchResult}
use Rattle.std.specs.Global.{Vec}
use Rattle.std.specs.List.Sorted.{IsStrictlyIncreasing, IsBinarySearchResult}
use Rattle.std.specs.Ordering.{nat_cmp}
use Rattle.std.proofs.lemmas.Bool.{eqb-true, eq-eqb, cases_lt}
use Rattle.std.proofs.lemmas.List.{length-append, take_at, append-nil}
use Rattle.std.proofs.lemmas.List.Folds.{list_any_at}
use Rattle.std.proofs.lemmas.List.Kept.{AllPairs-from_increasing}
use Rattle.std.proofs.lemmas.List.Sorted.{searched}
use Rattle.mm_frame.specs.PlainFrames.{has_number, items_of}
use Rattle.mm_frame.specs.Listed.{list_of, group_places, AreListed, is_place, ends_with, with_place}
use Rattle.mm_frame.specs.Listed.{without_place}
use Rattle.mm_frame.specs.Places.{places_from, passes}
use Rattle.mm_frame.proofs.Placing.{places-push, places-has, Rises}

-- Lists with one of them changed.

pub list_of-same : (lists : List (Vec ℕ)) (at : ℕ) (list : Vec ℕ) → at < length lists
    → list_of (set lists at list) at ≡ list.items
list_of-same [] at list low = absurd (omega (arith, low))
list_of-same (x ∷ lists) zero list low = refl
list_of-same (x ∷ lists) (suc at) list low = list_of-same lists at list (omega (arith, low))

pub list_of-other : (lists : List (Vec ℕ)) (at n : ℕ) (list : Vec ℕ) → nat_eq at n ≡ false
    → list_of (set lists at list) n ≡ list_of lists n
list_of-other [] at n list other = refl
list_of-other (x ∷ lists) zero zero list other =
    absurd (let same : nat_eq 0 0 ≡ true = eq-eqb 0 0 refl in
    let wrong : true ≡ false = sym same ∙ other in let z : ⊥ = cc in z)
list_of-other (x ∷ lists) zero (suc n) list other = refl
list_of-other (x ∷ lists) (suc at) zero list other = refl
list_of-other (x ∷ lists) (suc at) (suc n) list other =
    list_of-other lists at n list (less (nat_eq at n) refl)
  where
    less : (b : Bool) → nat_eq at n ≡ b → nat_eq at n ≡ false
    less true is =
        absurd (let same : at ≡ n = eqb-true at n is in
        let more : nat_eq (suc at) (suc n) ≡ true = eq-eqb (suc at) (suc n) (ap suc same) in
        let wrong : true ≡ false = sym more ∙ other in let z : ⊥ = cc in z)
    less false is = is

pub list_of-past : (lists : List (Vec ℕ)) (n : ℕ) → length lists ≤ n → list_of lists n ≡ []
list_of-past [] n far = refl
list_of-past (x ∷ lists) zero far = absurd (omega (arith, far))
list_of-past (x ∷ lists) (suc n) far = list_of-past lists n (omega (arith, far))

pub list_of-read : (lists : List (Vec ℕ)) (n : ℕ) (d : Vec ℕ) → n < length lists
    → list_of lists n ≡ (get_or lists n d).items
list_of-read [] n d low = absurd (omega (arith, low))
list_of-read (x ∷ lists) zero d low = refl
list_of-read (x ∷ lists) (suc n) d low = list_of-read lists n d (omega (arith, low))

pub list_of-more : (lists : List (Vec ℕ)) (list : Vec ℕ) (n : ℕ) → list.items ≡ []
    → list_of (lists ++ list ∷ []) n ≡ list_of lists n
list_of-more [] list zero none = none
list_of-more [] list (suc n) none = refl
list_of-more (x ∷ lists) list zero none = refl
list_of-more (x ∷ lists) list (suc n) none = list_of-more lists list n none

pub list_of-found : (lists : List (Vec ℕ)) (n : ℕ) (list : Vec ℕ) → slice_get lists n ≡ Some list
    → list_of lists n ≡ list.items
list_of-found [] n list is = absurd (cc)
list_of-found (x ∷ lists) zero list is = let same : x ≡ list = cc in ap items_of same
list_of-found (x ∷ lists) (suc n) list is = list_of-found lists n list is

pub list_of-none : (lists : List (Vec ℕ)) (n : ℕ) → slice_get lists n ≡ None → list_of lists n ≡ []
list_of-none [] n is = refl
list_of-none (x ∷ lists) zero is = absurd (cc)
list_of-none (x ∷ lists) (suc n) is = list_of-none lists n is

-- one list gets the value of a function at its old value
pub changed : (f : List ℕ → List ℕ) (lists : List (Vec ℕ)) (at : ℕ) (list : Vec ℕ)
    → at < length lists → list.items ≡ f (list_of lists at) → (n : ℕ)
    → list_of (set lists at list) n ≡ (if nat_eq at n then f (list_of lists n) else list_of lists n)
changed f lists at list low is n = go (nat_eq at n) refl
  where
    go : (b : Bool) → nat_eq at n ≡ b
        → list_of (set lists at list) n ≡ (if b then f (list_of lists n) else list_of lists n)
    go true same =
        let here : at ≡ n = eqb-true at n same in
        ap (list_of (set lists at list)) (sym here) ∙ list_of-same lists at list low ∙ is
        ∙ ap (λ m. f (list_of lists m)) here
    go false other = list_of-other lists at n list other

-- no list changes if the function keeps that list
pub unchanged : (f : List ℕ → List ℕ) (lists : List (Vec ℕ)) (at : ℕ)
    → f (list_of lists at) ≡ list_of lists at → (n : ℕ)
    → list_of lists n ≡ (if nat_eq at n then f (list_of lists n) else list_of lists n)
unchanged f lists at kept n = go (nat_eq at n) refl
  where
    go : (b : Bool) → nat_eq at n ≡ b
        → list_of lists n ≡ (if b then f (list_of lists n) else list_of lists n)
    go true same =
        let here : at ≡ n = eqb-true at n same in
        sym (ap (λ m. f (list_of lists m)) (sym here) ∙ kept ∙ ap (list_of lists) here)
    go false other = refl

-- one more number of a group, for a function that changes nothing when applied again
pub once-more : (f : List ℕ → List ℕ) (xs ys zs : List ℕ) (b e : Bool) → f (f xs) ≡ f xs
    → ys ≡ (if b then f xs else xs) → zs ≡ (if e then f ys else ys)
    → zs ≡ (if b || e then f xs else xs)
once-more f xs ys zs true true again was is = is ∙ ap f was ∙ again
once-more f xs ys zs true false again was is = is ∙ was
once-more f xs ys zs false true again was is = is ∙ ap f was
once-more f xs ys zs false false again was is = is ∙ was

-- Places at the end of lists.

last-of : (xs : List ℕ) (n : ℕ) → slice_get (xs ++ n ∷ []) (length xs) ≡ Some n
last-of [] n = refl
last-of (x ∷ xs) n = last-of xs n

pub ends-pushed : (place : ℕ) (xs : List ℕ) → ends_with place (xs ++ place ∷ []) ≡ true
ends-pushed place xs =
    let size : length (xs ++ place ∷ []) - 1 ≡ length xs =
    omega (arith, length-append xs (place ∷ [])) in
    ap (λ k. is_place place (slice_get (xs ++ place ∷ []) k)) size
    ∙ ap (is_place place) (last-of xs place) ∙ eq-eqb place place refl

pub with-again : (place : ℕ) (xs : List ℕ)
    → with_place place (with_place place xs) ≡ with_place place xs
with-again place xs = go (ends_with place xs) refl
  where
    go : (b : Bool) → ends_with place xs ≡ b
        → with_place place (if b then xs else xs ++ place ∷ [])
        ≡ (if b then xs else xs ++ place ∷ [])
    go true is = rw is refl
    go false is = rw (ends-pushed place xs) refl

pub without-again : (place : ℕ) (xs : List ℕ) → ends_with place (without_place place xs) ≡ false
    → without_place place (without_place place xs) ≡ without_place place xs
without-again place xs gone =
    let ys = without_place place xs in
    let same : (if ends_with place ys then take (length ys - 1) ys else ys) ≡ ys =
    ap (λ b. if b then take (length ys - 1) ys else ys) gone in
    same

-- a place that is not in the list is not the last
ends-among : (place : ℕ) (xs : List ℕ) (k : ℕ) → has_number xs place ≡ false
    → is_place place (slice_get xs k) ≡ false
ends-among place [] k none = refl
ends-among place (x ∷ xs) zero none = first (nat_eq x place) none
  where
    first : (b : Bool) → (b || has_number xs place) ≡ false → b ≡ false
    first true is = is
    first false is = refl
ends-among place (x ∷ xs) (suc k) none = ends-among place xs k (rest (nat_eq x place) none)
  where
    rest : (b : Bool) → (b || has_number xs place) ≡ false → has_number xs place ≡ false
    rest true is = absurd (cc)
    rest false is = is

slice_get-past : {X : Type 0} (xs : List X) (n : ℕ) → length xs ≤ n → slice_get xs n ≡ None
slice_get-past [] n far = refl
slice_get-past (x ∷ xs) zero far = absurd (omega (arith, far))
slice_get-past (x ∷ xs) (suc n) far = slice_get-past xs n (omega (arith, far))

-- the next place is not among those of the groups
pub next-free : (groups : List (List ℕ)) (n place : ℕ) → place ≡ length groups
    → ends_with place (group_places groups n) ≡ false
next-free groups n place is =
    ends-among place (group_places groups n) _ (places-has (λ g. has_number g n) groups place
    ∙ ap (passes (λ g. has_number g n)) (slice_get-past groups place (omega (arith, is))))

pub group_places-push : (groups : List (List ℕ)) (group : List ℕ) (n place : ℕ)
    → place ≡ length groups
    → group_places (groups ++ group ∷ []) n
    ≡ group_places groups n ++ (if has_number group n then place ∷ [] else [])
group_places-push groups group n place is =
    let same : 0 + length groups ≡ place = omega (arith, is) in
    places-push (λ g. has_number g n) 0 groups group
    ∙ ap (λ k. group_places groups n ++ (if has_number group n then k ∷ [] else [])) same

pub listed-pushed : (groups : List (List ℕ)) (group : List ℕ) (old new : List (Vec ℕ)) (place : ℕ)
    → place ≡ length groups → AreListed groups old
    → ((n : ℕ)
    → list_of new n
    ≡ (if has_number group n then with_place place (list_of old n) else list_of old n))
    → AreListed (groups ++ group ∷ []) new
listed-pushed groups group old new place is listed grown n = grown n
    ∙ ap (λ (ms : List ℕ). if has_number group n then with_place place ms else ms) (listed n)
    ∙ go (has_number group n) ∙ sym (group_places-push groups group n place is)
  where
    free : ends_with place (group_places groups n) ≡ false
    free = next-free groups n place is

    go : (b : Bool)
        → (if b then with_place place (group_places groups n) else group_places groups n)
        ≡ group_places groups n ++ (if b then place ∷ [] else [])
    go true =
        ap (λ b. if b then group_places groups n else group_places groups n ++ place ∷ []) free
    go false = sym (append-nil (group_places groups n))

without-pushed : (place : ℕ) (xs : List ℕ) → without_place place (xs ++ place ∷ []) ≡ xs
without-pushed place xs =
    let ys = xs ++ place ∷ [] in
    let size : length xs ≡ length ys - 1 = omega (arith, length-append xs (place ∷ [])) in
    let cut : (if ends_with place ys then take (length ys - 1) ys else ys) ≡ take (length ys - 1)
    ys =
    ap (λ b. if b then take (length ys - 1) ys else ys) (ends-pushed place xs) in
    cut ∙ take_at xs (place ∷ []) (length ys - 1) size

pub without-free : (place : ℕ) (xs : List ℕ) → ends_with place xs ≡ false
    → without_place place xs ≡ xs
without-free place xs free = ap (λ b. if b then take (length xs - 1) xs else xs) free

-- what is left of the list of a number, without the place of the last group
pub last-without : (groups : List (List ℕ)) (group : List ℕ) (n place : ℕ) → place ≡ length groups
    → without_place place (group_places (groups ++ group ∷ []) n) ≡ group_places groups n
last-without groups group n place is =
    ap (without_place place) (group_places-push groups group n place is) ∙ go (has_number group n)
  where
    free : ends_with place (group_places groups n) ≡ false
    free = next-free groups n place is

    go : (b : Bool)
        → without_place place (group_places groups n ++ (if b then place ∷ [] else []))
        ≡ group_places groups n
    go true = without-pushed place (group_places groups n)
    go false = ap (without_place place) (append-nil (group_places groups n))
        ∙ without-free place (group_places groups n) free

pub listed-once : (groups : List (List ℕ)) (group : List ℕ) (old : List (Vec ℕ)) (place : ℕ)
    → place ≡ length groups → AreListed (groups ++ group ∷ []) old → (n : ℕ)
    → ends_with place (without_place place (list_of old n)) ≡ false
listed-once groups group old place is listed n =
    ap (λ (ms : List ℕ). ends_with place (without_place place ms)) (listed n)
    ∙ ap (ends_with place) (last-without groups group n place is) ∙ next-free groups n place is

pub listed-popped : (groups : List (List ℕ)) (group : List ℕ) (old new : List (Vec ℕ)) (place : ℕ)
    → place ≡ length groups → AreListed (groups ++ group ∷ []) old
    → ((n : ℕ)
    → list_of new n
    ≡ (if has_number group n then without_place place (list_of old n) else list_of old n))
    → AreListed groups new
listed-popped groups group old new place is listed less n = less n
    ∙ ap (λ (ms : List ℕ). if has_number group n then without_place place ms else ms) (listed n)
    ∙ go (has_number group n) refl
  where
    go : (b : Bool) → has_number group n ≡ b
        → (if b then without_place place (group_places (groups ++ group ∷ []) n)
        else group_places (groups ++ group ∷ []) n) ≡ group_places groups n
    go true has = last-without groups group n place is
    go false has = group_places-push groups group n place is
        ∙ ap (λ b. group_places groups n ++ (if b then place ∷ [] else [])) has
        ∙ append-nil (group_places groups n)

-- Searches.

rises-more : (low high : ℕ) (ns : List ℕ) → low ≤ high → Rises high ns → Rises low ns
rises-more low high [] more up = tt
rises-more low high (n ∷ ns) more up = (omega (arith, up.0), up.1)

rises-from : {X : Type 0} (test : X → Bool) (at : ℕ) (xs : List X)
    → Rises at (places_from test at xs)
rises-from test at [] = tt
rises-from test at (x ∷ xs) = go (test x) (rises-from test (at + 1) xs)
  where
    go : (b : Bool) → Rises (at + 1) (places_from test (at + 1) xs)
        → Rises at (if b then at ∷ places_from test (at + 1) xs else places_from test (at + 1) xs)
    go true rest = (omega arith, rest)
    go false rest = rises-more at (at + 1) (places_from test (at + 1) xs) (omega arith) rest

increasing : (at : ℕ) (ns : List ℕ) → Rises at ns → IsStrictlyIncreasing ns
increasing at [] up = λ k low. absurd (omega (arith, low))
increasing at (n ∷ []) up = λ k low. absurd (omega (arith, low))
increasing at (n ∷ (m ∷ ns)) up = steps (increasing (n + 1) (m ∷ ns) up.1)
  where
    steps : IsStrictlyIncreasing (m ∷ ns) → (k : ℕ) → k + 1 < length (n ∷ (m ∷ ns))
        → get_or (n ∷ (m ∷ ns)) k 0 < get_or (n ∷ (m ∷ ns)) (k + 1) 0
    steps rest zero low = omega (arith, up.1.0)
    steps rest (suc k) low =
        let next : suc (k + 1) ≡ suc k + 1 = omega arith in
        subst (λ j. get_or (m ∷ ns) k 0 < get_or (n ∷ (m ∷ ns)) j 0) next
        (rest k (omega (arith, low)))

pub group_places-increase : (groups : List (List ℕ)) (n : ℕ)
    → IsStrictlyIncreasing (group_places groups n)
group_places-increase groups n =
    increasing 0 (group_places groups n) (rises-from (λ g. has_number g n) 0 groups)

none-has : (xs : List ℕ) (x : ℕ) → ((k : ℕ) → k < length xs → nat_eq (get_or xs k 0) x ≡ false)
    → has_number xs x ≡ false
none-has [] x none = refl
none-has (y ∷ xs) x none = ap (λ b. b || has_number xs x) (none 0 (omega arith))
    ∙ none-has xs x (λ k low. none (suc k) (omega (arith, low)))

pub unequal : (m n : ℕ) → ((m ≡ n) → ⊥) → nat_eq m n ≡ false
unequal m n differ = go (nat_eq m n) refl
  where
    go : (b : Bool) → nat_eq m n ≡ b → b ≡ false
    go true is = absurd (differ (eqb-true m n is))
    go false is = refl

-- a search among numbers that ascend finds what is among them
pub search-has : (xs : List ℕ) (x : ℕ) (r : Result ℕ ℕ) → IsStrictlyIncreasing xs
    → IsBinarySearchResult (λ y. nat_cmp y x) xs r → is_ok r ≡ has_number xs x
search-has xs x r up result = go r (searched xs x r result rising)
  where
    rising : (i j : ℕ) → i ≤ j → j < length xs → get_or xs i 0 ≤ get_or xs j 0
    rising i j most low = at (nat_eq i j) refl
      where
        at : (b : Bool) → nat_eq i j ≡ b → get_or xs i 0 ≤ get_or xs j 0
        at true is =
            let same : i ≡ j = eqb-true i j is in
            subst (λ m. get_or xs i 0 ≤ get_or xs m 0) same (omega arith)
        at false is =
            let below : i < j =
            (let differ : (i ≡ j) → ⊥ =
            λ e. (let wrong : true ≡ false = sym (eq-eqb i j e) ∙ is in
            let z : ⊥ = cc in z) in
            omega (arith, most, differ)) in
            omega (arith, AllPairs-from_increasing xs up i j 0 below low)

    go : (r : Result ℕ ℕ)
        → MatchResult r (λ i. (i < length xs) × (get_or xs i 0 ≡ x)) (λ i. (i ≤ length xs)
        × ((k : ℕ) → k < i → get_or xs k 0 < x)
        × ((k : ℕ) → i ≤ k → k < length xs → x < get_or xs k 0)) → is_ok r ≡ has_number xs x
    go (Ok i) (low, is) =
        sym (list_any_at (λ m. nat_eq m x) xs i 0 low (eq-eqb (get_or xs i 0) x is))
    go (Err i) (most, below, above) =
        sym (none-has xs x (λ k low. unequal (get_or xs k 0) x (side k low)))
      where
        side : (k : ℕ) → k < length xs → (get_or xs k 0 ≡ x) → ⊥
        side k low same =
            ⊎_elim (λ l. omega (arith, below k l, same)) (λ l. omega (arith, above k l low, same))
            (cases_lt k i)

-- what the two functions do if the place is the last, and if it is not

pub without-last : (place : ℕ) (xs ys : List ℕ) → ends_with place xs ≡ true
    → ys ≡ take (length xs - 1) xs → ys ≡ without_place place xs
without-last place xs ys last is =
    is ∙ sym (ap (λ b. if b then take (length xs - 1) xs else xs) last)

pub with-last : (place : ℕ) (xs : List ℕ) → ends_with place xs ≡ true → with_place place xs ≡ xs
with-last place xs last = ap (λ b. if b then xs else xs ++ place ∷ []) last

pub with-free : (place : ℕ) (xs : List ℕ) → ends_with place xs ≡ false
    → with_place place xs ≡ xs ++ place ∷ []
with-free place xs free = ap (λ b. if b then xs else xs ++ place ∷ []) free
