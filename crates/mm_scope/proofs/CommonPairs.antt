-- The pairs of active `$d` that assertions ask for: those of the active `$e`, and those of a
-- statement's own symbols.
use Rattle.std.proofs.Common.{◌≡◌, ℕ, suc, ◌<◌, Bool, true, false, not, List, [], ◌∷◌, ◌++◌, length}
use Rattle.std.proofs.Common.{refl, ap, sym, ◌∙◌, arith}
use Rattle.std.specs.Prelude.{◌&&◌, ◌||◌, nat_eq, filter, map, slice_get, Option, Some, None}
use Rattle.std.specs.Prelude.{IfSome}
use Rattle.std.specs.List.{list_any, list_all}
use Rattle.std.proofs.lemmas.Bool.{or_left, or_right}
use Rattle.std.proofs.lemmas.Bool.{eqb-true}
use Rattle.mm_text.specs.Bytes.{Token}
use Rattle.mm_database.specs.Frames.{floating, essential}
use Rattle.mm_frame.specs.Numbered.{NumberedHypothesis}
use Rattle.mm_frame.specs.PlainFrames.{has_number, in_group, in_groups}
use Rattle.mm_frame.specs.Grouping.{Extends}
use Rattle.mm_frame.specs.Listed.{group_places}
use Rattle.mm_frame.specs.Places.{passes}
use Rattle.mm_frame.specs.NeededNumbers.{number_stands_in, is_needed_number}
use Rattle.mm_scope.specs.Sharing.{ArePairs, is_unasked_number, is_own_number, is_free_number}
use Rattle.mm_scope.specs.Sharing.{is_wanted_number, shares_wanted, own_shares}
use Rattle.mm_frame.proofs.Groups.{short-group, has_number-filter}
use Rattle.mm_frame.proofs.Apartness.{and-left, and-right, both, common-apart}
use Rattle.mm_frame.proofs.Apartness.{any-at, any-and}
use Rattle.mm_frame.proofs.Placing.{places-has}
use Rattle.mm_frame.proofs.Grouped.{all-at, groups-differ, groups-turned}
use Rattle.mm_scope.proofs.MandatoryTrees.{asked-floating, asked-essential}

abbrev asked : List NumberedHypothesis → ℕ → Bool
asked hs n = list_any (number_stands_in n) hs

-- with one more hypothesis

pairs-alike : (hs more : List NumberedHypothesis) (groups : List (List ℕ)) (pairs : List (List ℕ))
    → ((a b : ℕ) → in_groups groups a b ≡ true → asked hs a ≡ asked more a)
    → ArePairs hs groups pairs → ArePairs more groups pairs
pairs-alike hs more groups pairs same are a b = are a b ∙ go (in_groups groups a b) refl
  where
    go : (c : Bool) → in_groups groups a b ≡ c
        → (c && (asked hs a && asked hs b)) ≡ (c && (asked more a && asked more b))
    go false is = refl
    go true is =
        ap (λ x. x && asked hs b) (same a b is)
        ∙ ap (λ x. asked more a && x) (same b a (groups-turned groups b a ∙ is))

pub pairs-floating : (hs : List NumberedHypothesis) (groups : List (List ℕ)) (l : Token) (k v : ℕ)
    (o : Option (List (List ℕ))) → IfSome o (ArePairs hs groups)
    → IfSome o (ArePairs (hs ++ floating l k v ∷ []) groups)
pairs-floating hs groups l k v None are = are
pairs-floating hs groups l k v (Some pairs) are =
    pairs-alike hs (hs ++ floating l k v ∷ []) groups pairs
    (λ a b is. sym (asked-floating hs l k v a)) are

none-shared : true ≡ false → ⊥
none-shared e = cc

some-length : (n : ℕ) → suc n ≡ 0 → ⊥
some-length n e = omega (arith, e)

grouped : (groups : List (List ℕ)) (a b : ℕ) → in_groups groups a b ≡ true
    → nat_eq (length (group_places groups a)) 0 ≡ true → ⊥
grouped groups a b apart none =
    none-shared (sym apart ∙ sym (common-apart groups a b (groups-differ groups a b apart))
    ∙ free (group_places groups a) none)
  where
    free : (places : List ℕ) → nat_eq (length places) 0 ≡ true
        → list_any (has_number (group_places groups b)) places ≡ false
    free [] e = refl
    free (p ∷ ps) e = absurd (some-length (length ps) (eqb-true (suc (length ps)) 0 e))

pub pairs-essential : (hs : List NumberedHypothesis) (groups : List (List ℕ)) (l : Token)
    (statement : List ℕ) (o : Option (List (List ℕ)))
    → list_all (is_free_number hs groups) statement ≡ true → IfSome o (ArePairs hs groups)
    → IfSome o (ArePairs (hs ++ essential l statement ∷ []) groups)
pairs-essential hs groups l statement None free are = are
pairs-essential hs groups l statement (Some pairs) free are =
    pairs-alike hs (hs ++ essential l statement ∷ []) groups pairs
    (λ a b is. same a b is ∙ sym (asked-essential hs l statement a)) are
  where
    same : (a b : ℕ) → in_groups groups a b ≡ true
        → asked hs a ≡ (has_number statement a || asked hs a)
    same a b is = go (has_number statement a) (asked hs a) refl refl
      where
        go : (s c : Bool) → has_number statement a ≡ s → asked hs a ≡ c → c ≡ (s || c)
        go false c e f = refl
        go true true e f = refl
        go true false e f = absurd (
            let test : is_free_number hs groups a ≡ true =
            all-at (is_free_number hs groups) statement a free e in
            grouped groups a b is
            (sym (ap (λ x. x || nat_eq (length (group_places groups a)) 0) f) ∙ test))

-- with one more group, of which fewer than two are asked for

in-kept : (p : ℕ → Bool) (group : List ℕ) (a b : ℕ)
    → in_group a b (filter p group) ≡ (in_group a b group && (p a && p b))
in-kept p group a b =
    ap (λ (x : Bool). not (nat_eq a b) && (x && has_number (filter p group) b))
    (has_number-filter p group a)
    ∙ ap (λ (x : Bool). not (nat_eq a b) && ((has_number group a && p a) && x))
    (has_number-filter p group b)
    ∙ spread (not (nat_eq a b)) (has_number group a) (has_number group b) (p a) (p b)
  where
    nothing : (b : Bool) → (b && false) ≡ false
    nothing true = refl
    nothing false = refl

    spread : (d x y u v : Bool) → (d && ((x && u) && (y && v))) ≡ ((d && (x && y)) && (u && v))
    spread false x y u v = refl
    spread true false y u v = refl
    spread true true false true v = refl
    spread true true false false v = refl
    spread true true true u v = refl

wanted-none : (hs : List NumberedHypothesis) (n : ℕ) → is_wanted_number hs [] n ≡ asked hs n
wanted-none hs n = go (asked hs n)
  where
    go : (b : Bool) → (b || false) ≡ b
    go true = refl
    go false = refl

pub pairs-group : (hs : List NumberedHypothesis) (old new : List (List ℕ)) (group kept : List ℕ)
    (o : Option (List (List ℕ))) → kept ≡ filter (is_wanted_number hs []) group
    → length kept < 2 → Extends old group new → IfSome o (ArePairs hs old)
    → IfSome o (ArePairs hs new)
pairs-group hs old new group kept None is short more are = are
pairs-group hs old new group kept (Some pairs) is short more are = λ a b.
    are a b
    ∙ go (in_groups old a b) (in_group a b group) (asked hs a && asked hs b)
    (ap (λ x. in_group a b group && (x && asked hs b)) (sym (wanted-none hs a))
    ∙ ap (λ x. in_group a b group && (is_wanted_number hs [] a && x)) (sym (wanted-none hs b))
    ∙ sym (in-kept (is_wanted_number hs []) group a b) ∙ ap (in_group a b) (sym is)
    ∙ short-group kept a b short)
    ∙ ap (λ (x : Bool). x && (asked hs a && asked hs b)) (sym (more.pairs a b))
  where
    go : (o g n : Bool) → (g && n) ≡ false → (o && n) ≡ ((o || g) && n)
    go true g n f = refl
    go false g n f = sym f

-- all groups, restricted

pub restricted : (p : ℕ → Bool) (groups : List (List ℕ)) (a b : ℕ)
    → in_groups (map (filter p) groups) a b ≡ (in_groups groups a b && (p a && p b))
restricted p [] a b = refl
restricted p (g ∷ groups) a b =
    ap (λ x. x || in_groups (map (filter p) groups) a b) (in-kept p g a b)
    ∙ ap (λ x. (in_group a b g && (p a && p b)) || x) (restricted p groups a b)
    ∙ go (in_group a b g) (in_groups groups a b) (p a && p b)
  where
    nothing : (b : Bool) → (b && false) ≡ false
    nothing true = refl
    nothing false = refl

    go : (x y b : Bool) → ((x && b) || (y && b)) ≡ ((x || y) && b)
    go true y true = refl
    go true y false = nothing y
    go false y b = refl

pub pairs-restricted : (hs : List NumberedHypothesis) (groups pairs : List (List ℕ))
    → ((a b : ℕ)
    → in_groups pairs a b ≡ in_groups (map (filter (is_wanted_number hs [])) groups) a b)
    → ArePairs hs groups pairs
pairs-restricted hs groups pairs are a b =
    are a b ∙ restricted (is_wanted_number hs []) groups a b
    ∙ ap (λ x. in_groups groups a b && (x && is_wanted_number hs [] b)) (wanted-none hs a)
    ∙ ap (λ x. in_groups groups a b && (asked hs a && x)) (wanted-none hs b)

-- a frame's: common ones, and those of groups with an own symbol

module _ (hs : List NumberedHypothesis) (groups : List (List ℕ)) (statement own : List ℕ)
    (are : (n : ℕ) → has_number own n ≡ is_own_number hs statement n) where
  needed-wanted : (n : ℕ) → is_wanted_number hs own n ≡ is_needed_number hs statement n
  needed-wanted n = ap (λ x. asked hs n || x) (are n) ∙ go (asked hs n) (has_number statement n)
    where
      go : (c s : Bool) → (c || (s && not c)) ≡ (s || c)
      go true true = refl
      go true false = refl
      go false true = refl
      go false false = refl

  abbrev owns : List ℕ → Bool
  owns group = list_any (has_number group) own

  any-own : (group ns : List ℕ) (a : ℕ) → has_number group a ≡ true → has_number ns a ≡ true
      → list_any (has_number group) ns ≡ true
  any-own group [] a inside has = absurd (cc)
  any-own group (n ∷ ns) a inside has = go (nat_eq n a) refl has (any-own group ns a inside)
    where
      go : (b : Bool) → nat_eq n a ≡ b → (b || has_number ns a) ≡ true
          → (has_number ns a ≡ true → list_any (has_number group) ns ≡ true)
          → (has_number group n || list_any (has_number group) ns) ≡ true
      go true same any rest =
          or_left (has_number group n) (list_any (has_number group) ns)
          (ap (has_number group) (eqb-true n a same) ∙ inside)
      go false same any rest =
          or_right (has_number group n) (list_any (has_number group) ns) (rest any)

  -- a pair with an own symbol is one of a group that has an own symbol
  own-group : (gs : List (List ℕ)) (a b n : ℕ) → has_number own n ≡ true
      → ((g : List ℕ) → in_group a b g ≡ true → has_number g n ≡ true) → in_groups gs a b ≡ true
      → list_any (λ group. owns group && in_group a b group) gs ≡ true
  own-group [] a b n mine has inside = absurd (cc)
  own-group (g ∷ gs) a b n mine has inside =
      go (in_group a b g) refl inside (own-group gs a b n mine has)
    where
      go : (c : Bool) → in_group a b g ≡ c → (c || in_groups gs a b) ≡ true
          → (in_groups gs a b ≡ true
          → list_any (λ group. owns group && in_group a b group) gs ≡ true)
          → ((owns g && in_group a b g) || list_any (λ group. owns group && in_group a b group) gs)
          ≡ true
      go true is any rest =
          or_left (owns g && in_group a b g)
          (list_any (λ group. owns group && in_group a b group) gs)
          (both (owns g) (in_group a b g) (any-own g own n (has g is) mine) is)
      go false is any rest =
          or_right (owns g && in_group a b g)
          (list_any (λ group. owns group && in_group a b group) gs) (rest any)

  has-first : (a b : ℕ) (g : List ℕ) → in_group a b g ≡ true → has_number g a ≡ true
  has-first a b g is = and-left (has_number g a) (has_number g b)
      (and-right (not (nat_eq a b)) (has_number g a && has_number g b) is)

  has-second : (a b : ℕ) (g : List ℕ) → in_group a b g ≡ true → has_number g b ≡ true
  has-second a b g is = and-right (has_number g a) (has_number g b)
      (and-right (not (nat_eq a b)) (has_number g a && has_number g b) is)

  own-in : (gs : List (List ℕ)) (a b : ℕ)
      → list_any (λ group. owns group && in_group a b group) gs ≡ true → in_groups gs a b ≡ true
  own-in [] a b inside = absurd (cc)
  own-in (g ∷ gs) a b inside = go (owns g && in_group a b g) refl inside (own-in gs a b)
    where
      go : (c : Bool) → (owns g && in_group a b g) ≡ c
          → (c || list_any (λ group. owns group && in_group a b group) gs) ≡ true
          → (list_any (λ group. owns group && in_group a b group) gs ≡ true
          → in_groups gs a b ≡ true) → (in_group a b g || in_groups gs a b) ≡ true
      go true is any rest =
          or_left (in_group a b g) (in_groups gs a b) (and-right (owns g) (in_group a b g) is)
      go false is any rest = or_right (in_group a b g) (in_groups gs a b) (rest any)

  pub pairs-joined : (common mine : Bool) (a b : ℕ)
      → common ≡ (in_groups groups a b && (is_needed_number hs [] a && is_needed_number hs [] b))
      → mine ≡ own_shares hs groups own a b
      → (common || mine)
      ≡ (in_groups groups a b
      && (is_needed_number hs statement a && is_needed_number hs statement b))
  pairs-joined common mine a b c m =
      ap (λ x. x || mine) c ∙ ap (λ x. (in_groups groups a b && (asked hs a && asked hs b)) || x)
      (m
      ∙ ap (λ x. list_any (λ group. owns group && in_group a b group) groups
      && (x && is_wanted_number hs own b)) (needed-wanted a)
      ∙ ap (λ x. list_any (λ group. owns group && in_group a b group) groups
      && (is_needed_number hs statement a && x)) (needed-wanted b))
      ∙ go (in_groups groups a b) (list_any (λ group. owns group && in_group a b group) groups)
      (asked hs a) (asked hs b) (has_number statement a) (has_number statement b)
      (own-in groups a b)
      (λ inside s out. own-group groups a b a
      (are a ∙ ap (λ x. x && is_unasked_number hs a) s ∙ ap not out) (has-first a b) inside)
      (λ inside s out. own-group groups a b b
      (are b ∙ ap (λ x. x && is_unasked_number hs b) s ∙ ap not out) (has-second a b) inside)
      refl refl refl refl refl refl
    where
      go : (g o ca cb sa sb : Bool) → (o ≡ true → g ≡ true)
          → (in_groups groups a b ≡ true → has_number statement a ≡ true → asked hs a ≡ false
          → list_any (λ group. owns group && in_group a b group) groups ≡ true)
          → (in_groups groups a b ≡ true → has_number statement b ≡ true → asked hs b ≡ false
          → list_any (λ group. owns group && in_group a b group) groups ≡ true)
          → in_groups groups a b ≡ g → asked hs a ≡ ca → asked hs b ≡ cb
          → has_number statement a ≡ sa → has_number statement b ≡ sb
          → list_any (λ group. owns group && in_group a b group) groups ≡ o
          → ((g && (ca && cb)) || (o && ((sa || ca) && (sb || cb))))
          ≡ (g && ((sa || ca) && (sb || cb)))
      go false true ca cb sa sb i j k e f h s t u = absurd (none-shared (sym (i refl)))
      go false false ca cb sa sb i j k e f h s t u = refl
      go true o true true true true i j k e f h s t u = refl
      go true o true true true false i j k e f h s t u = refl
      go true o true true false true i j k e f h s t u = refl
      go true o true true false false i j k e f h s t u = refl
      go true true true false sa sb i j k e f h s t u = refl
      go true true false cb sa sb i j k e f h s t u = refl
      go true false true false sa true i j k e f h s t u = absurd (none-shared (sym (k e t h) ∙ u))
      go true false true false true false i j k e f h s t u = refl
      go true false true false false false i j k e f h s t u = refl
      go true false false cb true sb i j k e f h s t u = absurd (none-shared (sym (j e s f) ∙ u))
      go true false false cb false sb i j k e f h s t u = refl

-- the groups at places that have each place of a group with an own symbol

abbrev pub wanted_pair : List NumberedHypothesis → ℕ → ℕ → List ℕ → Bool
wanted_pair hs a b group = in_group a b (filter (is_wanted_number hs []) group)

pub wanted-pairs : (hs : List NumberedHypothesis) (groups : List (List ℕ)) (a b : ℕ)
    → list_any (wanted_pair hs a b) groups
    ≡ in_groups (map (filter (is_wanted_number hs [])) groups) a b
wanted-pairs hs [] a b = refl
wanted-pairs hs (g ∷ groups) a b = ap (λ x. wanted_pair hs a b g || x) (wanted-pairs hs groups a b)

and-first : (a b c : Bool) → ((a && b) && c) ≡ (a && (b && c))
and-first true b c = refl
and-first false b c = refl

any-none : (ns : List ℕ) → false ≡ list_any (λ n. false) ns
any-none [] = refl
any-none (n ∷ ns) = any-none ns

any-passes : (o : Option (List ℕ)) (ns : List ℕ)
    → list_any (λ n. passes (λ group. has_number group n) o) ns
    ≡ passes (λ group. list_any (has_number group) ns) o
any-passes None ns = sym (any-none ns)
any-passes (Some group) ns = refl

any-alike : (f g : ℕ → Bool) (ns : List ℕ) → ((n : ℕ) → f n ≡ g n) → list_any f ns ≡ list_any g ns
any-alike f g [] same = refl
any-alike f g (n ∷ ns) same =
    ap (λ x. x || list_any f ns) (same n) ∙ ap (λ x. g n || x) (any-alike f g ns same)

pub places-own : (hs : List NumberedHypothesis) (groups : List (List ℕ)) (own places : List ℕ)
    → ((i : ℕ) → has_number places i ≡ list_any (λ n. has_number (group_places groups n) i) own)
    → (a b : ℕ) → list_any (shares_wanted hs groups own a b) places ≡ own_shares hs groups own a b
places-own hs groups own places has a b =
    any-at (λ group. (list_any (has_number group) own && in_group a b group)
    && (is_wanted_number hs own a && is_wanted_number hs own b)) groups
    (shares_wanted hs groups own a b) places at
    ∙ any-and (λ group. list_any (has_number group) own && in_group a b group)
    (is_wanted_number hs own a && is_wanted_number hs own b) groups
  where
    at : (i : ℕ)
        → passes (λ group. (list_any (has_number group) own && in_group a b group)
        && (is_wanted_number hs own a && is_wanted_number hs own b))
        (slice_get groups i) ≡ (has_number places i && shares_wanted hs groups own a b i)
    at i = spelled (slice_get groups i)
        ∙ ap (λ x. x && shares_wanted hs groups own a b i) (sym (has i ∙ any-alike (λ n. has_number
        (group_places groups n)
        i) (λ n. passes (λ group. has_number group n) (slice_get groups i)) own (λ n. places-has
        (λ group. has_number group n) groups i) ∙ any-passes (slice_get groups i) own))
      where
        spelled : (o : Option (List ℕ))
            → passes (λ group. (list_any (has_number group) own && in_group a b group)
            && (is_wanted_number hs own a && is_wanted_number hs own b)) o
            ≡ (passes (λ group. list_any (has_number group) own) o
            && passes (λ group. in_group a b (filter (is_wanted_number hs own) group)) o)
        spelled None = refl
        spelled (Some group) =
            and-first (list_any (has_number group) own) (in_group a b group)
            (is_wanted_number hs own a && is_wanted_number hs own b)
            ∙ ap (λ x. list_any (has_number group) own && x)
            (sym (in-kept (is_wanted_number hs own) group a b))
