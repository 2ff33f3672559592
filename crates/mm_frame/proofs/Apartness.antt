-- Pairs of groups, found at the places of the groups.
use Rattle.std.proofs.Common.{◌≡◌, ℕ, zero, suc, Bool, true, false, not, List, [], ◌∷◌, refl, ap}
use Rattle.std.proofs.Common.{sym, ◌∙◌}
use Rattle.std.specs.Prelude.{◌&&◌, ◌||◌, nat_eq, flat_map, slice_get, Option, Some, None}
use Rattle.std.specs.List.{list_any}
use Rattle.std.proofs.lemmas.Bool.{or_left, or_right}
use Rattle.std.proofs.lemmas.Bool.{eqb-true, eq-eqb}
use Rattle.std.proofs.lemmas.List.Folds.{list_any-append}
use Rattle.mm_frame.specs.PlainFrames.{has_number, in_group, in_groups}
use Rattle.mm_frame.specs.Listed.{group_places, shares}
use Rattle.mm_frame.specs.Places.{passes}
use Rattle.mm_frame.proofs.Placing.{places-has}

pub and-left : (a b : Bool) → (a && b) ≡ true → a ≡ true
and-left true b is = refl
and-left false b is = absurd (cc)

pub and-right : (a b : Bool) → (a && b) ≡ true → b ≡ true
and-right true b is = is
and-right false b is = absurd (cc)

pub both : (a b : Bool) → a ≡ true → b ≡ true → (a && b) ≡ true
both a b e f = rw (e, f) refl

nothing : (b : Bool) → (b && false) ≡ false
nothing true = refl
nothing false = refl

pub same-bool : (a b : Bool) → (a ≡ true → b ≡ true) → (b ≡ true → a ≡ true) → a ≡ b
same-bool true b f g = sym (f refl)
same-bool false true f g = g refl
same-bool false false f g = refl

pub any-there : {X : Type 0} (test : X → Bool) (xs : List X) (i : ℕ)
    → passes test (slice_get xs i) ≡ true → list_any test xs ≡ true
any-there test [] i is = absurd (cc)
any-there test (x ∷ xs) zero is = or_left (test x) (list_any test xs) is
any-there test (x ∷ xs) (suc i) is = or_right (test x) (list_any test xs) (any-there test xs i is)

any-from : {X : Type 0} (test : X → Bool) (xs : List X) (P : Type 0)
    → ((i : ℕ) → passes test (slice_get xs i) ≡ true → P) → list_any test xs ≡ true → P
any-from test [] P found is = absurd (cc)
any-from test (x ∷ xs) P found is = go (test x) refl is (any-from test xs P (λ i. found (suc i)))
  where
    go : (b : Bool) → test x ≡ b → (b || list_any test xs) ≡ true → (list_any test xs ≡ true → P)
        → P
    go true here any rest = found 0 here
    go false here any rest = rest any

pub has-there : (f : ℕ → Bool) (ns : List ℕ) (i : ℕ) → has_number ns i ≡ true → f i ≡ true
    → list_any f ns ≡ true
has-there f [] i has is = absurd (cc)
has-there f (n ∷ ns) i has is = go (nat_eq n i) refl has (has-there f ns i)
  where
    go : (b : Bool) → nat_eq n i ≡ b → (b || has_number ns i) ≡ true
        → (has_number ns i ≡ true → f i ≡ true → list_any f ns ≡ true)
        → (f n || list_any f ns) ≡ true
    go true same any rest = or_left (f n) (list_any f ns) (ap f (eqb-true n i same) ∙ is)
    go false same any rest = or_right (f n) (list_any f ns) (rest any is)

has-from : (f : ℕ → Bool) (ns : List ℕ) (P : Type 0)
    → ((i : ℕ) → has_number ns i ≡ true → f i ≡ true → P) → list_any f ns ≡ true → P
has-from f [] P found is = absurd (cc)
has-from f (n ∷ ns) P found is =
    go (f n) refl is
    (has-from f ns P (λ i has. found i (or_right (nat_eq n i) (has_number ns i) has)))
  where
    go : (b : Bool) → f n ≡ b → (b || list_any f ns) ≡ true → (list_any f ns ≡ true → P) → P
    go true here any rest = found n (or_left (nat_eq n n) (has_number ns n) (eq-eqb n n refl)) here
    go false here any rest = rest any

-- an element of the list passes if and only if one of the places passes a test of places
pub any-at : {X : Type 0} (test : X → Bool) (xs : List X) (f : ℕ → Bool) (ns : List ℕ)
    → ((i : ℕ) → passes test (slice_get xs i) ≡ (has_number ns i && f i))
    → list_any f ns ≡ list_any test xs
any-at test xs f ns is = same-bool (list_any f ns) (list_any test xs)
    (has-from f ns (list_any test xs ≡ true)
    (λ i has passed. any-there test xs i (is i ∙ both (has_number ns i) (f i) has passed)))
    (any-from test xs (list_any f ns ≡ true) (λ i passed. has-there f ns i
    (and-left (has_number ns i) (f i) (sym (is i) ∙ passed))
    (and-right (has_number ns i) (f i) (sym (is i) ∙ passed))))

or-first : (a b c : Bool) → ((a || b) || c) ≡ (a || (b || c))
or-first true b c = refl
or-first false b c = refl

or-false : (b : Bool) → b ≡ (b || false)
or-false true = refl
or-false false = refl

-- a step through a list, and its end
pub any-step : {X : Type 0} (f : X → Bool) (before after first : Bool) (x : X) (xs ys : List X)
    (whole : Bool) → after ≡ (before || first) → first ≡ f x → ys ≡ x ∷ xs
    → (before || list_any f ys) ≡ whole → (after || list_any f xs) ≡ whole
any-step f before after first x xs ys whole is one front was =
    ap (λ b. b || list_any f xs) (is ∙ ap (λ b. before || b) one)
    ∙ or-first before (f x) (list_any f xs) ∙ ap (λ zs. before || list_any f zs) (sym front)
    ∙ was

pub any-end : {X : Type 0} (f : X → Bool) (before : Bool) (ys : List X) (whole : Bool) → ys ≡ []
    → (before || list_any f ys) ≡ whole → before ≡ whole
any-end f before ys whole none was =
    or-false before ∙ ap (λ zs. before || list_any f zs) (sym none) ∙ was

-- two different numbers are in a group together if and only if their lists have a common place
in_group-different : (a b : ℕ) → nat_eq a b ≡ false → (o : Option (List ℕ))
    → passes (in_group a b) o ≡ (passes (λ g. has_number g a) o && passes (λ g. has_number g b) o)
in_group-different a b differ None = refl
in_group-different a b differ (Some g) =
    ap (λ x. not x && (has_number g a && has_number g b)) differ

pub and-turned : (a b : Bool) → (a && b) ≡ (b && a)
and-turned true true = refl
and-turned true false = refl
and-turned false true = refl
and-turned false false = refl

pub common-apart : (groups : List (List ℕ)) (a b : ℕ) → nat_eq a b ≡ false
    → list_any (has_number (group_places groups b)) (group_places groups a) ≡ in_groups groups a b
common-apart groups a b differ =
    any-at (in_group a b) groups (has_number (group_places groups b)) (group_places groups a) (λ i.
    in_group-different a b differ (slice_get groups i)
    ∙ ap (λ x. x && passes (λ g. has_number g b) (slice_get groups i))
    (sym (places-has (λ g. has_number g a) groups i))
    ∙ ap (λ x. has_number (group_places groups a) i && x)
    (sym (places-has (λ g. has_number g b) groups i)))

pub common-apart-turned : (groups : List (List ℕ)) (a b : ℕ) → nat_eq a b ≡ false
    → list_any (has_number (group_places groups a)) (group_places groups b) ≡ in_groups groups a b
common-apart-turned groups a b differ =
    any-at (in_group a b) groups (has_number (group_places groups a)) (group_places groups b) (λ i.
    in_group-different a b differ (slice_get groups i)
    ∙ ap (λ x. x && passes (λ g. has_number g b) (slice_get groups i))
    (sym (places-has (λ g. has_number g a) groups i))
    ∙ ap (λ x. has_number (group_places groups a) i && x)
    (sym (places-has (λ g. has_number g b) groups i))
    ∙ and-turned (has_number (group_places groups a) i) (has_number (group_places groups b) i))

-- equal numbers are not counted as a pair of a group
pub apart-itself : (groups : List (List ℕ)) (a b : ℕ) → nat_eq a b ≡ true
    → in_groups groups a b ≡ false
apart-itself [] a b same = refl
apart-itself (g ∷ groups) a b same =
    ap (λ x. (not x && (has_number g a && has_number g b)) || in_groups groups a b) same
    ∙ apart-itself groups a b same

-- The groups of some numbers.

pub listed-has : (groups : List (List ℕ)) (numbers : List ℕ) (i : ℕ)
    → has_number (flat_map (group_places groups) numbers) i
    ≡ list_any (λ n. has_number (group_places groups n) i) numbers
listed-has groups [] i = refl
listed-has groups (n ∷ numbers) i =
    list_any-append (λ m. nat_eq m i) (group_places groups n)
    (flat_map (group_places groups) numbers)
    ∙ ap (λ b. has_number (group_places groups n) i || b) (listed-has groups numbers i)

-- the numbers kept from a group have the same pairs as the group
pub kept-shares : (groups : List (List ℕ)) (numbers kept : List ℕ) (place : ℕ)
    → ((n : ℕ)
    → has_number kept n
    ≡ (passes (λ g. has_number g n) (slice_get groups place) && has_number numbers n))
    → (a b : ℕ) → in_group a b kept ≡ shares groups numbers a b place
kept-shares groups numbers kept place has a b =
    ap (λ x. not (nat_eq a b) && (x && has_number kept b)) (has a)
    ∙ ap (λ x. not (nat_eq a b)
    && ((passes (λ g. has_number g a) (slice_get groups place) && has_number numbers a)
    && x)) (has b)
    ∙ go (slice_get groups place)
  where
    spread : (d x y u v : Bool) → (d && ((x && u) && (y && v))) ≡ ((d && (x && y)) && (u && v))
    spread false x y u v = refl
    spread true false y u v = refl
    spread true true false true v = refl
    spread true true false false v = refl
    spread true true true u v = refl

    go : (o : Option (List ℕ))
        → (not (nat_eq a b)
        && ((passes (λ g. has_number g a) o && has_number numbers a)
        && (passes (λ g. has_number g b) o && has_number numbers b)))
        ≡ (passes (in_group a b) o && (has_number numbers a && has_number numbers b))
    go None = nothing (not (nat_eq a b))
    go (Some g) =
        spread (not (nat_eq a b)) (has_number g a) (has_number g b) (has_number numbers a)
        (has_number numbers b)

pub any-and : {X : Type 0} (test : X → Bool) (b : Bool) (xs : List X)
    → list_any (λ x. test x && b) xs ≡ (list_any test xs && b)
any-and test b [] = refl
any-and test b (x ∷ xs) =
    ap (λ y. (test x && b) || y) (any-and test b xs) ∙ go (test x) (list_any test xs) b
  where
    go : (x y b : Bool) → ((x && b) || (y && b)) ≡ ((x || y) && b)
    go true y true = refl
    go true y false = nothing y
    go false y b = refl

-- groups at places that include the place of each group with one of the numbers
pub places-share : (groups : List (List ℕ)) (numbers places : List ℕ)
    → ((i : ℕ) → has_number places i ≡ list_any (λ n. has_number (group_places groups n) i) numbers)
    → (a b : ℕ)
    → list_any (shares groups numbers a b) places
    ≡ (in_groups groups a b && (has_number numbers a && has_number numbers b))
places-share groups numbers places has a b =
    any-at (λ g. in_group a b g && among) groups (shares groups numbers a b) places
    (λ i. at i (slice_get groups i) refl) ∙ any-and (in_group a b) among groups
  where
    among : Bool
    among = has_number numbers a && has_number numbers b

    there : (i : ℕ) → shares groups numbers a b i ≡ true → has_number places i ≡ true
    there i passed =
        let inside : passes (in_group a b) (slice_get groups i) ≡ true =
        and-left (passes (in_group a b) (slice_get groups i))
        (has_number numbers a && has_number numbers b) passed in
        let first : has_number numbers a ≡ true =
        and-left (has_number numbers a) (has_number numbers b) (and-right
        (passes (in_group a b) (slice_get groups i))
        (has_number numbers a && has_number numbers b) passed) in
        has i
        ∙ has-there (λ n. has_number (group_places groups n) i) numbers a first
        (places-has (λ g. has_number g a) groups i ∙ one (slice_get groups i) inside)
      where
        one : (o : Option (List ℕ)) → passes (in_group a b) o ≡ true
            → passes (λ g. has_number g a) o ≡ true
        one None is = absurd (cc)
        one (Some g) is =
            and-left (has_number g a) (has_number g b)
            (and-right (not (nat_eq a b)) (has_number g a && has_number g b) is)

    absorbed : (p q : Bool) → (q ≡ true → p ≡ true) → q ≡ (p && q)
    absorbed true q f = refl
    absorbed false true f = absurd (let wrong : false ≡ true = f refl in let z : ⊥ = cc in z)
    absorbed false false f = refl

    spelled : (o : Option (List ℕ))
        → passes (λ g. in_group a b g && (has_number numbers a && has_number numbers b)) o
        ≡ (passes (in_group a b) o && (has_number numbers a && has_number numbers b))
    spelled None = refl
    spelled (Some g) = refl

    at : (i : ℕ) (o : Option (List ℕ)) → slice_get groups i ≡ o
        → passes (λ g. in_group a b g && (has_number numbers a && has_number numbers b))
        (slice_get groups i) ≡ (has_number places i && shares groups numbers a b i)
    at i o is = spelled (slice_get groups i)
        ∙ absorbed (has_number places i) (shares groups numbers a b i) (there i)
