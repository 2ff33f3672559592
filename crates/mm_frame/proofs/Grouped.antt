-- Groups that are left out, and pairs that replace groups.
use Rattle.std.proofs.Common.{◌≡◌, ℕ, Bool, true, false, not, List, [], ◌∷◌, ◌++◌, length, take}
use Rattle.std.proofs.Common.{refl, ap, sym, ◌∙◌, arith}
use Rattle.std.specs.Prelude.{◌&&◌, ◌||◌, nat_eq, slice_get, Option, Some, None}
use Rattle.std.specs.List.{list_any, list_all}
use Rattle.std.proofs.lemmas.Bool.{or_left, or_right}
use Rattle.std.proofs.lemmas.List.{take-append-le, take_all}
use Rattle.std.proofs.lemmas.Bool.{eqb-true, eq-eqb}
use Rattle.mm_frame.specs.PlainFrames.{has_number, in_group, in_groups}
use Rattle.mm_frame.specs.Listed.{group_places}
use Rattle.mm_frame.specs.Places.{passes}
use Rattle.mm_frame.specs.Grouping.{Extends, is_apart_or_same, is_pair_of, have_pair}
use Rattle.mm_frame.proofs.Placing.{places-has}
use Rattle.mm_frame.proofs.Groups.{in_groups-push}
use Rattle.mm_frame.proofs.Apartness.{and-left, and-right, both, any-there}
use Rattle.mm_frame.proofs.Apartness.{same-bool}

take-whole : {X : Type 0} (xs : List X) → take (length xs) xs ≡ xs
take-whole xs = take_all (length xs) xs (omega arith)

pub extended : (groups : List (List ℕ)) (group : List ℕ) (new : List (List ℕ))
    → new ≡ groups ++ group ∷ [] → Extends groups group new
extended groups group new is = record {
  front = ap (take (length groups)) is
      ∙ take-append-le (length groups) groups (group ∷ []) (omega arith) ∙ take-whole groups;
  pairs = λ a b. ap (λ gs. in_groups gs a b) is ∙ in_groups-push groups group a b;
}

absorbs : (p q : Bool) → (q ≡ true → p ≡ true) → p ≡ (p || q)
absorbs true q f = refl
absorbs false true f = f refl
absorbs false false f = refl

pub left-out : (groups : List (List ℕ)) (group : List ℕ)
    → ((a b : ℕ) → in_group a b group ≡ true → in_groups groups a b ≡ true)
    → Extends groups group groups
left-out groups group known = record {
  front = take-whole groups;
  pairs = λ a b. absorbs (in_groups groups a b) (in_group a b group) (known a b);
}

pub all-at : (f : ℕ → Bool) (ns : List ℕ) (n : ℕ) → list_all f ns ≡ true → has_number ns n ≡ true
    → f n ≡ true
all-at f [] n all has = absurd (cc)
all-at f (m ∷ ns) n all has =
    go (nat_eq m n) refl has (all-at f ns n (and-right (f m) (list_all f ns) all))
  where
    go : (b : Bool) → nat_eq m n ≡ b → (b || has_number ns n) ≡ true
        → (has_number ns n ≡ true → f n ≡ true) → f n ≡ true
    go true same has rest = ap f (sym (eqb-true m n same)) ∙ and-left (f m) (list_all f ns) all
    go false same has rest = rest has

group-differ : (a b : ℕ) (group : List ℕ) → in_group a b group ≡ true → nat_eq a b ≡ false
group-differ a b group is =
    go (nat_eq a b) (and-left (not (nat_eq a b)) (has_number group a && has_number group b) is)
  where
    go : (c : Bool) → not c ≡ true → c ≡ false
    go true e = absurd (cc)
    go false e = refl

group-first : (a b : ℕ) (group : List ℕ) → in_group a b group ≡ true → has_number group a ≡ true
group-first a b group is =
    and-left (has_number group a) (has_number group b)
    (and-right (not (nat_eq a b)) (has_number group a && has_number group b) is)

group-second : (a b : ℕ) (group : List ℕ) → in_group a b group ≡ true → has_number group b ≡ true
group-second a b group is =
    and-right (has_number group a) (has_number group b)
    (and-right (not (nat_eq a b)) (has_number group a && has_number group b) is)

-- each pair was found in a group
pub pairs-known : (groups : List (List ℕ)) (group : List ℕ)
    → list_all (λ a. list_all (is_apart_or_same groups a) group) group ≡ true → (a b : ℕ)
    → in_group a b group ≡ true → in_groups groups a b ≡ true
pairs-known groups group all a b is =
    let row =
    all-at (λ n. list_all (is_apart_or_same groups n) group) group a all
    (group-first a b group is) in
    let here = all-at (is_apart_or_same groups a) group b row (group-second a b group is) in
    sym (ap (λ c. c || in_groups groups a b) (group-differ a b group is)) ∙ here

-- a group at a place that has both
pub listed-apart : (groups : List (List ℕ)) (a b place : ℕ) → nat_eq a b ≡ false
    → has_number (group_places groups a) place ≡ true
    → has_number (group_places groups b) place ≡ true → in_groups groups a b ≡ true
listed-apart groups a b place differ first second =
    any-there (in_group a b) groups place
    (there (slice_get groups place) (sym (places-has (λ g. has_number g a) groups place) ∙ first)
    (sym (places-has (λ g. has_number g b) groups place) ∙ second))
  where
    there : (o : Option (List ℕ)) → passes (λ g. has_number g a) o ≡ true
        → passes (λ g. has_number g b) o ≡ true → passes (in_group a b) o ≡ true
    there None p q = absurd (cc)
    there (Some g) p q =
        both (not (nat_eq a b)) (has_number g a && has_number g b) (ap not differ)
        (both (has_number g a) (has_number g b) p q)

-- one group has all of it
pub group-listed : (groups : List (List ℕ)) (group : List ℕ) (place : ℕ)
    → list_all (λ n. has_number (group_places groups n) place) group ≡ true → (a b : ℕ)
    → in_group a b group ≡ true → in_groups groups a b ≡ true
group-listed groups group place all a b is =
    listed-apart groups a b place (group-differ a b group is)
    (all-at (λ n. has_number (group_places groups n) place) group a all (group-first a b group is))
    (all-at (λ n. has_number (group_places groups n) place) group b all (group-second a b group is))

-- a test that can only prove a fact, or else another test that decides it
pub noted-or : (p q r : Bool) → (p ≡ true → r ≡ true) → q ≡ r → (p || q) ≡ r
noted-or true q r f e = sym (f refl)
noted-or false q r f e = e

-- Pairs of numbers, one with those after it.

turned-and : (a b : Bool) → (a && b) ≡ (b && a)
turned-and true true = refl
turned-and true false = refl
turned-and false true = refl
turned-and false false = refl

same-turned : (a b : ℕ) → nat_eq a b ≡ nat_eq b a
same-turned a b = grind arith

group-turned : (a b : ℕ) (group : List ℕ) → in_group a b group ≡ in_group b a group
group-turned a b group =
    ap (λ t. not t && (has_number group a && has_number group b)) (same-turned a b)
    ∙ ap (λ t. not (nat_eq b a) && t) (turned-and (has_number group a) (has_number group b))

pub groups-turned : (groups : List (List ℕ)) (a b : ℕ) → in_groups groups a b ≡ in_groups groups b a
groups-turned [] a b = refl
groups-turned (g ∷ gs) a b = ap (λ t. t || in_groups gs a b) (group-turned a b g)
    ∙ ap (λ t. in_group b a g || t) (groups-turned gs a b)

pub groups-differ : (groups : List (List ℕ)) (a b : ℕ) → in_groups groups a b ≡ true
    → nat_eq a b ≡ false
groups-differ [] a b is = absurd (cc)
groups-differ (g ∷ gs) a b is = go (in_group a b g) refl is (groups-differ gs a b)
  where
    go : (c : Bool) → in_group a b g ≡ c → (c || in_groups gs a b) ≡ true
        → (in_groups gs a b ≡ true → nat_eq a b ≡ false) → nat_eq a b ≡ false
    go true e any rest = group-differ a b g e
    go false e any rest = rest any

-- a pair of the number with one of the others, in both directions
pair-found : (groups : List (List ℕ)) (n a b : ℕ) (others : List ℕ)
    → list_any (is_pair_of groups n a b) others ≡ true
    → (in_groups groups a b && (has_number (n ∷ others) a && has_number (n ∷ others) b)) ≡ true
pair-found groups n a b [] any = absurd (cc)
pair-found groups n a b (o ∷ others) any =
    go (is_pair_of groups n a b o) refl any (pair-found groups n a b others)
  where
    here : nat_eq a b ≡ false → in_groups groups n o ≡ true → (p q r s : Bool) → nat_eq n a ≡ p
        → nat_eq o a ≡ q → nat_eq n b ≡ r → nat_eq o b ≡ s
        → ((p || (q || false)) && (r || (s || false))) ≡ true → in_groups groups a b ≡ true
    here differ apart true q true s e f g h any =
        absurd (let wrong : nat_eq a b ≡ true =
        eq-eqb a b (sym (eqb-true n a e) ∙ eqb-true n b g) in
        cc)
    here differ apart true q false true e f g h any =
        ap (λ k. in_groups groups k b) (sym (eqb-true n a e))
        ∙ ap (in_groups groups n) (sym (eqb-true o b h)) ∙ apart
    here differ apart true q false false e f g h any = absurd (cc)
    here differ apart false true true s e f g h any =
        ap (λ k. in_groups groups k b) (sym (eqb-true o a f))
        ∙ ap (in_groups groups o) (sym (eqb-true n b g)) ∙ groups-turned groups o n ∙ apart
    here differ apart false true false true e f g h any =
        absurd (let wrong : nat_eq a b ≡ true =
        eq-eqb a b (sym (eqb-true o a f) ∙ eqb-true o b h) in
        cc)
    here differ apart false true false false e f g h any = absurd (cc)
    here differ apart false false r s e f g h any = absurd (cc)

    wider : (k : ℕ) → has_number (n ∷ (o ∷ [])) k ≡ true → has_number (n ∷ (o ∷ others)) k ≡ true
    wider k has = step (nat_eq n k) (nat_eq o k) has
      where
        step : (p q : Bool) → (p || (q || false)) ≡ true → (p || (q || has_number others k)) ≡ true
        step true q e = refl
        step false true e = refl
        step false false e = absurd (cc)

    longer : (k : ℕ) → has_number (n ∷ others) k ≡ true → has_number (n ∷ (o ∷ others)) k ≡ true
    longer k has = step (nat_eq n k) (nat_eq o k) has
      where
        step : (p q : Bool) → (p || has_number others k) ≡ true
            → (p || (q || has_number others k)) ≡ true
        step true q e = refl
        step false true e = refl
        step false false e = e

    go : (c : Bool) → is_pair_of groups n a b o ≡ c
        → (c || list_any (is_pair_of groups n a b) others) ≡ true
        → (list_any (is_pair_of groups n a b) others ≡ true
        → (in_groups groups a b && (has_number (n ∷ others) a && has_number (n ∷ others) b))
        ≡ true)
        → (in_groups groups a b
        && (has_number (n ∷ (o ∷ others)) a && has_number (n ∷ (o ∷ others)) b)) ≡ true
    go true e any rest =
        let pair = and-right (in_groups groups n o) (in_group a b (n ∷ (o ∷ []))) e in
        let first = group-first a b (n ∷ (o ∷ [])) pair in
        let second = group-second a b (n ∷ (o ∷ [])) pair in
        both (in_groups groups a b)
        (has_number (n ∷ (o ∷ others)) a && has_number (n ∷ (o ∷ others)) b)
        (here (group-differ a b (n ∷ (o ∷ [])) pair)
        (and-left (in_groups groups n o) (in_group a b (n ∷ (o ∷ []))) e) (nat_eq n a)
        (nat_eq o a) (nat_eq n b) (nat_eq o b) refl refl refl refl
        (both (has_number (n ∷ (o ∷ [])) a) (has_number (n ∷ (o ∷ [])) b) first second))
        (both (has_number (n ∷ (o ∷ others)) a) (has_number (n ∷ (o ∷ others)) b) (wider a first)
        (wider b second))
    go false e any rest =
        let was = rest any in
        let has =
        and-right (in_groups groups a b)
        (has_number (n ∷ others) a && has_number (n ∷ others) b) was in
        both (in_groups groups a b)
        (has_number (n ∷ (o ∷ others)) a && has_number (n ∷ (o ∷ others)) b)
        (and-left (in_groups groups a b) (has_number (n ∷ others) a && has_number (n ∷ others) b)
        was)
        (both (has_number (n ∷ (o ∷ others)) a) (has_number (n ∷ (o ∷ others)) b)
        (longer a (and-left (has_number (n ∷ others) a) (has_number (n ∷ others) b) has))
        (longer b (and-right (has_number (n ∷ others) a) (has_number (n ∷ others) b) has)))

any-has : (f : ℕ → Bool) (ns : List ℕ) (n : ℕ) → has_number ns n ≡ true → f n ≡ true
    → list_any f ns ≡ true
any-has f [] n has is = absurd (cc)
any-has f (m ∷ ns) n has is = go (nat_eq m n) refl has (any-has f ns n)
  where
    go : (b : Bool) → nat_eq m n ≡ b → (b || has_number ns n) ≡ true
        → (has_number ns n ≡ true → f n ≡ true → list_any f ns ≡ true)
        → (f m || list_any f ns) ≡ true
    go true same has rest = or_left (f m) (list_any f ns) (ap f (eqb-true m n same) ∙ is)
    go false same has rest = or_right (f m) (list_any f ns) (rest has is)

itself : (n : ℕ) → nat_eq n n ≡ true
itself n = eq-eqb n n refl

two-first : (a b : ℕ) → nat_eq a b ≡ false → in_group a b (a ∷ (b ∷ [])) ≡ true
two-first a b differ =
    both (not (nat_eq a b)) (has_number (a ∷ (b ∷ [])) a && has_number (a ∷ (b ∷ [])) b)
    (ap not differ)
    (both (has_number (a ∷ (b ∷ [])) a) (has_number (a ∷ (b ∷ [])) b)
    (or_left (nat_eq a a) (nat_eq b a || false) (itself a))
    (or_right (nat_eq a b) (nat_eq b b || false) (or_left (nat_eq b b) false (itself b))))

pub pair-is : (groups : List (List ℕ)) (ns : List ℕ) (a b : ℕ)
    → have_pair groups ns a b ≡ (in_groups groups a b && (has_number ns a && has_number ns b))
pair-is groups [] a b = sym (none (in_groups groups a b))
  where
    none : (c : Bool) → (c && false) ≡ false
    none true = refl
    none false = refl
pair-is groups (n ∷ ns) a b =
    same-bool (have_pair groups (n ∷ ns) a b)
    (in_groups groups a b && (has_number (n ∷ ns) a && has_number (n ∷ ns) b))
    (there (pair-is groups ns a b)) (back (pair-is groups ns a b))
  where
    there : have_pair groups ns a b ≡ (in_groups groups a b && (has_number ns a && has_number ns b))
        → have_pair groups (n ∷ ns) a b ≡ true
        → (in_groups groups a b && (has_number (n ∷ ns) a && has_number (n ∷ ns) b)) ≡ true
    there before is = go (list_any (is_pair_of groups n a b) ns) refl is
      where
        go : (c : Bool) → list_any (is_pair_of groups n a b) ns ≡ c
            → (c || have_pair groups ns a b) ≡ true
            → (in_groups groups a b && (has_number (n ∷ ns) a && has_number (n ∷ ns) b)) ≡ true
        go true e any = pair-found groups n a b ns e
        go false e any =
            let was = sym before ∙ any in
            let has = and-right (in_groups groups a b) (has_number ns a && has_number ns b) was in
            both (in_groups groups a b) (has_number (n ∷ ns) a && has_number (n ∷ ns) b)
            (and-left (in_groups groups a b) (has_number ns a && has_number ns b) was)
            (both (has_number (n ∷ ns) a) (has_number (n ∷ ns) b)
            (or_right (nat_eq n a) (has_number ns a)
            (and-left (has_number ns a) (has_number ns b) has))
            (or_right (nat_eq n b) (has_number ns b)
            (and-right (has_number ns a) (has_number ns b) has)))

    back : have_pair groups ns a b ≡ (in_groups groups a b && (has_number ns a && has_number ns b))
        → (in_groups groups a b && (has_number (n ∷ ns) a && has_number (n ∷ ns) b)) ≡ true
        → have_pair groups (n ∷ ns) a b ≡ true
    back before is =
        let apart =
        and-left (in_groups groups a b) (has_number (n ∷ ns) a && has_number (n ∷ ns) b) is in
        let has =
        and-right (in_groups groups a b) (has_number (n ∷ ns) a && has_number (n ∷ ns) b) is in
        go apart (nat_eq n a) (nat_eq n b) refl refl
        (and-left (has_number (n ∷ ns) a) (has_number (n ∷ ns) b) has)
        (and-right (has_number (n ∷ ns) a) (has_number (n ∷ ns) b) has)
      where
        go : in_groups groups a b ≡ true → (p q : Bool) → nat_eq n a ≡ p → nat_eq n b ≡ q
            → (p || has_number ns a) ≡ true → (q || has_number ns b) ≡ true
            → have_pair groups (n ∷ ns) a b ≡ true
        go apart true true e f hasa hasb =
            absurd (let differ = groups-differ groups a b apart in
            let wrong : nat_eq a b ≡ true =
            eq-eqb a b (sym (eqb-true n a e) ∙ eqb-true n b f) in
            cc)
        go apart true false e f hasa hasb =
            let same : n ≡ a = eqb-true n a e in
            or_left (list_any (is_pair_of groups n a b) ns) (have_pair groups ns a b)
            (any-has (is_pair_of groups n a b) ns b hasb
            (ap (λ k. is_pair_of groups k a b b) same
            ∙ both (in_groups groups a b) (in_group a b (a ∷ (b ∷ []))) apart
            (two-first a b (groups-differ groups a b apart))))
        go apart false true e f hasa hasb =
            let same : n ≡ b = eqb-true n b f in
            let turned : in_groups groups b a ≡ true = groups-turned groups b a ∙ apart in
            or_left (list_any (is_pair_of groups n a b) ns) (have_pair groups ns a b)
            (any-has (is_pair_of groups n a b) ns a hasa
            (ap (λ k. is_pair_of groups k a b a) same
            ∙ both (in_groups groups b a) (in_group a b (b ∷ (a ∷ []))) turned
            (group-turned a b (b ∷ (a ∷ []))
            ∙ two-first b a (groups-differ groups b a turned))))
        go apart false false e f hasa hasb =
            or_right (list_any (is_pair_of groups n a b) ns) (have_pair groups ns a b)
            (before
            ∙ both (in_groups groups a b) (has_number ns a && has_number ns b) apart
            (both (has_number ns a) (has_number ns b) hasa hasb))

or-nil : (b : Bool) → (b || false) ≡ b
or-nil true = refl
or-nil false = refl

-- a step through numbers, each with those after it
pub pairs-step : (groups : List (List ℕ)) (before after : Bool) (n : ℕ) (ns ms : List ℕ) (u v : ℕ)
    (whole : Bool) → after ≡ (before || list_any (is_pair_of groups n u v) ns) → ms ≡ n ∷ ns
    → (before || have_pair groups ms u v) ≡ whole → (after || have_pair groups ns u v) ≡ whole
pairs-step groups before after n ns ms u v whole is front was =
    ap (λ c. c || have_pair groups ns u v) is
    ∙ first before (list_any (is_pair_of groups n u v) ns) (have_pair groups ns u v)
    ∙ ap (λ ks. before || have_pair groups ks u v) (sym front) ∙ was
  where
    first : (x y z : Bool) → ((x || y) || z) ≡ (x || (y || z))
    first true y z = refl
    first false y z = refl

pub pairs-end : (groups : List (List ℕ)) (before : Bool) (ms : List ℕ) (u v : ℕ) (whole : Bool)
    → ms ≡ [] → (before || have_pair groups ms u v) ≡ whole → before ≡ whole
pairs-end groups before ms u v whole none was =
    sym (or-nil before) ∙ ap (λ ks. before || have_pair groups ks u v) (sym none) ∙ was

pub pair-pushed : (groups : List (List ℕ)) (pair : List ℕ) (n other a b : ℕ)
    → pair ≡ n ∷ (other ∷ [])
    → in_groups (groups ++ pair ∷ []) a b
    ≡ (in_groups groups a b || in_group a b (n ∷ (other ∷ [])))
pair-pushed groups pair n other a b is =
    in_groups-push groups pair a b ∙ ap (λ g. in_groups groups a b || in_group a b g) is
