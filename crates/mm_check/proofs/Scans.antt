-- Tests of the items of a list, one after another.
use Rattle.std.proofs.Common.{◌≡◌, ℕ, ◌+◌, ◌<◌, ◌≤◌, Bool, true, false, map, List, [], ◌∷◌, drop}
use Rattle.std.proofs.Common.{length, refl, ap, sym, ◌∙◌, drop-cons, add-one}
use Rattle.std.proofs.Math.ListN.{drop_of_length-le}
use Rattle.std.specs.Prelude.{slice_index_or, ◌||◌}
use Rattle.std.specs.List.{list_any, list_all}
use Rattle.std.proofs.lemmas.List.Folds.{list_all-map}

pub drop_next : {X : Type 0} (xs : List X) (i : ℕ) (d : X) → i < length xs
    → drop i xs ≡ slice_index_or xs i d ∷ drop (i + 1) xs
drop_next xs i d within = rw (add-one, drop-cons xs i d) refl

pub drop_end : {X : Type 0} (xs : List X) (i : ℕ) → length xs ≤ i → drop i xs ≡ []
drop_end xs i past = drop_of_length-le xs past

-- a test of some item

pub any_here : {X : Type 0} (test : X → Bool) (xs : List X) (i : ℕ) (d : X) → i < length xs
    → test (slice_index_or xs i d) ≡ true → list_any test (drop i xs) ≡ true
any_here test xs i d within is = rw (drop_next xs i d within, is) refl

pub any_next : {X : Type 0} (test : X → Bool) (xs : List X) (i : ℕ) (d : X) → i < length xs
    → test (slice_index_or xs i d) ≡ false
    → list_any test (drop (i + 1) xs) ≡ list_any test (drop i xs)
any_next test xs i d within is = rw (drop_next xs i d within, is) refl

pub any_end : {X : Type 0} (test : X → Bool) (xs : List X) (i : ℕ) → length xs ≤ i
    → list_any test (drop i xs) ≡ false
any_end test xs i past = rw (drop_end xs i past) refl

pub any_map : {X Y : Type 0} (p : Y → Bool) (f : X → Y) (xs : List X)
    → list_any p (map f xs) ≡ list_any (λ x. p (f x)) xs
any_map p f [] = refl
any_map p f (x ∷ xs) = ap (λ b. p (f x) || b) (any_map p f xs)

-- a test of all items

pub all_here : {X : Type 0} (test : X → Bool) (xs : List X) (i : ℕ) (d : X) → i < length xs
    → test (slice_index_or xs i d) ≡ false → list_all test (drop i xs) ≡ false
all_here test xs i d within is = rw (drop_next xs i d within, is) refl

pub all_next : {X : Type 0} (test : X → Bool) (xs : List X) (i : ℕ) (d : X) → i < length xs
    → test (slice_index_or xs i d) ≡ true
    → list_all test (drop (i + 1) xs) ≡ list_all test (drop i xs)
all_next test xs i d within is = rw (drop_next xs i d within, is) refl

pub all_end : {X : Type 0} (test : X → Bool) (xs : List X) (i : ℕ) → length xs ≤ i
    → list_all test (drop i xs) ≡ true
all_end test xs i past = rw (drop_end xs i past) refl

-- ---- what is left from a place on passes as the whole does

pub any_found : {X : Type 0} (test : X → Bool) (xs : List X) (i : ℕ) (d : X)
    → list_any test (drop i xs) ≡ list_any test xs → i < length xs
    → test (slice_index_or xs i d) ≡ true → true ≡ list_any test xs
any_found test xs i d left within is = sym (any_here test xs i d within is) ∙ left

pub any_goes : {X : Type 0} (test : X → Bool) (xs : List X) (i : ℕ) (d : X)
    → list_any test (drop i xs) ≡ list_any test xs → i < length xs
    → test (slice_index_or xs i d) ≡ false → list_any test (drop (i + 1) xs) ≡ list_any test xs
any_goes test xs i d left within is = any_next test xs i d within is ∙ left

pub any_none : {X : Type 0} (test : X → Bool) (xs : List X) (i : ℕ)
    → list_any test (drop i xs) ≡ list_any test xs → length xs ≤ i → false ≡ list_any test xs
any_none test xs i left past = sym (any_end test xs i past) ∙ left

pub all_found : {X : Type 0} (test : X → Bool) (xs : List X) (i : ℕ) (d : X)
    → list_all test (drop i xs) ≡ list_all test xs → i < length xs
    → test (slice_index_or xs i d) ≡ false → false ≡ list_all test xs
all_found test xs i d left within is = sym (all_here test xs i d within is) ∙ left

pub all_goes : {X : Type 0} (test : X → Bool) (xs : List X) (i : ℕ) (d : X)
    → list_all test (drop i xs) ≡ list_all test xs → i < length xs
    → test (slice_index_or xs i d) ≡ true → list_all test (drop (i + 1) xs) ≡ list_all test xs
all_goes test xs i d left within is = all_next test xs i d within is ∙ left

pub all_none : {X : Type 0} (test : X → Bool) (xs : List X) (i : ℕ)
    → list_all test (drop i xs) ≡ list_all test xs → length xs ≤ i → true ≡ list_all test xs
all_none test xs i left past = sym (all_end test xs i past) ∙ left

pub ruleset some_items = (any_here, any_next, any_end, any_map)

pub ruleset all_items = (all_here, all_next, all_end, list_all-map)
