-- Texts are kept apart if their variables are. Each pair of texts is looked at once.
use Rattle.std.proofs.Common.{◌≡◌, ℕ, zero, suc, ◌+◌, ◌<◌, ◌≤◌, Bool, true, false, List, [], ◌∷◌}
use Rattle.std.proofs.Common.{◌++◌, length, drop, drop-cons, get_or, nat_eq, Option, Some, None}
use Rattle.std.proofs.Common.{refl, ap, ◌∙◌, sym, subst, arith, replicate}
use Rattle.std.specs.Prelude.{not, ◌&&◌, ◌||◌, filter, slice_get, slice_set, slice_index_or}
use Rattle.std.specs.List.{list_all, dedup}
use Rattle.std.specs.Ordering.{nat_cmp}
use Rattle.std.specs.BTreeMap.{get}
use Rattle.std.specs.List.Sorted.{IsPermutation}
use Rattle.std.proofs.lemmas.Bool.{or_left, or_right}
use Rattle.std.proofs.lemmas.List.{length-append, length-set, length-replicate, get_or_append_left}
use Rattle.std.proofs.lemmas.List.{get_or_push}
use Rattle.std.proofs.lemmas.List.Folds.{list_all-append}
use Rattle.std.proofs.Math.Seq.{take-append_seam, drop-append_seam}
use Rattle.std.specs.Global.{Vec}
use Rattle.mm_frame.proofs.Placing.{sorted-has}
use Rattle.mm_frame.proofs.Groups.{has_number-filter}
use Rattle.mm_frame.specs.PlainFrames.{has_number}
use Rattle.mm_frame.specs.NumberedSteps.{NumberedPlace, numbers_apart}
use Rattle.mm_database.specs.Proofs.{texts_apart}
use Rattle.mm_verify.specs.declared.parts.Part.{Part}
use Rattle.mm_verify.specs.declared.spreads.Spreads.{Spreads}
use Rattle.mm_verify.specs.Places.{symbol_of, place_in}
use Rattle.mm_verify.specs.Filling.{text_at, text_for, places_apart, are_parts_apart}
use Rattle.mm_verify.specs.Filling.{is_group_apart}
use Rattle.mm_verify.specs.Pairs.{each_pair, HasVariables, AreKnown, Keeps, is_variable_apart}
use Rattle.mm_verify.specs.Pairs.{are_variables_apart, AreNoted, written_pair, is_pair_apart}
use Rattle.mm_verify.specs.Turned.{and-turned, same-turned}
use Rattle.mm_verify.proofs.Resolving.{same-test, both-true, and-true}

-- tests of all elements

all-and : {X : Type 0} (f g : X → Bool) (xs : List X)
    → list_all (λ x. f x && g x) xs ≡ (list_all f xs && list_all g xs)
all-and f g [] = refl
all-and f g (x ∷ xs) = go (f x) (g x) (list_all f xs) (list_all g xs) (all-and f g xs)
  where
    go : (a b c d : Bool) {t : Bool} → t ≡ (c && d) → ((a && b) && t) ≡ ((a && c) && (b && d))
    go true true c d h = h
    go true false true d h = refl
    go true false false d h = refl
    go false b c d h = refl

all-same : {X : Type 0} (f g : X → Bool) (xs : List X) → ((x : X) → f x ≡ g x)
    → list_all f xs ≡ list_all g xs
all-same f g [] h = refl
all-same f g (x ∷ xs) h =
    ap (λ (b : Bool). b && list_all f xs) (h x) ∙ ap (λ (b : Bool). g x && b) (all-same f g xs h)

all-true : {X : Type 0} (xs : List X) → list_all (λ (x : X). true) xs ≡ true
all-true [] = refl
all-true (x ∷ xs) = all-true xs

twice : (a b c : Bool) → a ≡ true → ((a && b) && (b && c)) ≡ (b && c)
twice true true c h = refl
twice true false c h = refl
twice false b c h = absurd (cc)

-- a symmetric test that each element passes with itself
pub pairs-is : {X : Type 0} (f : X → X → Bool) (xs : List X) → ((x : X) → f x x ≡ true)
    → ((x y : X) → f x y ≡ f y x) → list_all (λ a. list_all (f a) xs) xs ≡ each_pair f xs
pairs-is f [] alone turned = refl
pairs-is f (x ∷ xs) alone turned =
    ap (λ (b : Bool). (f x x && list_all (f x) xs) && b)
    (all-and (λ a. f a x) (λ a. list_all (f a) xs) xs)
    ∙ ap (λ (b : Bool). (f x x && list_all (f x) xs) && (b && list_all (λ a. list_all (f a) xs) xs))
    (all-same (λ a. f a x) (f x) xs (λ y. turned y x))
    ∙ twice (f x x) (list_all (f x) xs) (list_all (λ a. list_all (f a) xs) xs) (alone x)
    ∙ ap (λ (b : Bool). list_all (f x) xs && b) (pairs-is f xs alone turned)

-- a test of each two elements, as far as it was done
pub pairs-end : {X : Type 0} (f : X → X → Bool) (xs : List X) (i : ℕ) (d : X) → i < length xs
    → list_all (f (get_or xs i d)) (drop (i + 1) xs) ≡ false
    → each_pair f (drop i xs) ≡ each_pair f xs → false ≡ each_pair f xs
pairs-end f xs i d lt none same =
    let next : suc i ≡ i + 1 = omega arith in
    let row : list_all (f (get_or xs i d)) (drop (suc i) xs) ≡ false =
    ap (λ n. list_all (f (get_or xs i d)) (drop n xs)) next ∙ none in
    sym (sym same ∙ ap (each_pair
    f) (drop-cons xs i d lt) ∙ ap (λ (b : Bool). b && each_pair f (drop (suc i) xs)) row)

pub pairs-all : {X : Type 0} (f : X → X → Bool) (xs : List X) (i : ℕ) → drop i xs ≡ []
    → each_pair f (drop i xs) ≡ each_pair f xs → true ≡ each_pair f xs
pairs-all f xs i all same = sym (ap (each_pair f) all) ∙ same

-- numbers that pass

pub eq-from : (a b : ℕ) → nat_eq a b ≡ true → a ≡ b
eq-from a b h = grind (arith, h)

eq-same : (a : ℕ) → nat_eq a a ≡ true
eq-same a = grind arith

all-at : (f : ℕ → Bool) (xs : List ℕ) (n : ℕ) → list_all f xs ≡ true → has_number xs n ≡ true
    → f n ≡ true
all-at f [] n h k = absurd (cc)
all-at f (x ∷ xs) n h k =
    go (nat_eq x n) refl (all-at f xs n (both-true (f x) (list_all f xs) h).1) k
  where
    go : (b : Bool) → nat_eq x n ≡ b → (has_number xs n ≡ true → f n ≡ true)
        → (b || has_number xs n) ≡ true → f n ≡ true
    go true e others k = ap f (sym (eq-from x n e)) ∙ (both-true (f x) (list_all f xs) h).0
    go false e others k = others k

pub all-from : (f : ℕ → Bool) (xs : List ℕ) → ((n : ℕ) → has_number xs n ≡ true → f n ≡ true)
    → list_all f xs ≡ true
all-from f [] h = refl
all-from f (x ∷ xs) h =
    and-true (f x) (list_all f xs) (h x (or_left (nat_eq x x) (has_number xs x) (eq-same x)))
    (all-from f xs (λ n k. h n (or_right (nat_eq x n) (has_number xs n) k)))

module _ (p : NumberedPlace) where
  -- the texts of a place and their variables
  pub apart-variables : (xs ys vs ws : List ℕ) → HasVariables p xs vs → HasVariables p ys ws
      → texts_apart (numbers_apart p) xs ys ≡ are_variables_apart p vs ws
  apart-variables xs ys vs ws hv hw = same-test _ _ there back
    where
      both : (x y : ℕ) → p.is_variable x ≡ true → p.is_variable y ≡ true
          → numbers_apart p x y ≡ is_variable_apart p x y
      both x y vx vy = ap (λ (b : Bool). not (b && p.is_variable y) || is_variable_apart p x y) vx
          ∙ ap (λ (b : Bool). not b || is_variable_apart p x y) vy

      there : texts_apart (numbers_apart p) xs ys ≡ true → are_variables_apart p vs ws ≡ true
      there h =
          all-from (λ x. list_all (is_variable_apart p x) ws) vs (λ x hx.
          all-from (is_variable_apart p x) ws (λ y hy.
          let ix = both-true (has_number xs x) (p.is_variable x) (sym (hv x) ∙ hx) in
          let iy = both-true (has_number ys y) (p.is_variable y) (sym (hw y) ∙ hy) in
          let row = all-at (λ n. list_all (numbers_apart p n) ys) xs x h ix.0 in
          sym (both x y ix.1 iy.1) ∙ all-at (numbers_apart p x) ys y row iy.0))

      back : are_variables_apart p vs ws ≡ true → texts_apart (numbers_apart p) xs ys ≡ true
      back h =
          all-from (λ n. list_all (numbers_apart p n) ys) xs (λ x hx.
          all-from (numbers_apart p x) ys
          (λ y hy. go x y hx hy (p.is_variable x) refl (p.is_variable y) refl))
        where
          go : (x y : ℕ) → has_number xs x ≡ true → has_number ys y ≡ true → (a : Bool)
              → p.is_variable x ≡ a → (b : Bool) → p.is_variable y ≡ b → numbers_apart p x y ≡ true
          go x y hx hy true vx true vy =
              let ix = hv x ∙ and-true (has_number xs x) (p.is_variable x) hx vx in
              let iy = hw y ∙ and-true (has_number ys y) (p.is_variable y) hy vy in
              both x y vx vy
              ∙ all-at (is_variable_apart p x) ws y
              (all-at (λ n. list_all (is_variable_apart p n) ws) vs x h ix) iy
          go x y hx hy true vx false vy =
              ap (λ (b : Bool). not (b && p.is_variable y) || is_variable_apart p x y) vx
              ∙ ap (λ (b : Bool). not b || is_variable_apart p x y) vy
          go x y hx hy false vx b vy =
              ap (λ (b : Bool). not (b && p.is_variable y) || is_variable_apart p x y) vx

  pub places-texts : (entries : List (List ℕ)) (a b : Option ℕ)
      → places_apart p entries a b
      ≡ texts_apart (numbers_apart p) (text_for entries a) (text_for entries b)
  places-texts entries None b = refl
  places-texts entries (Some a) None = sym (all-true (text_for entries (Some a)))
  places-texts entries (Some a) (Some b) = refl

  texts-turned : ((a b : ℕ) → p.apart a b ≡ p.apart b a) → (xs ys : List ℕ)
      → texts_apart (numbers_apart p) xs ys ≡ texts_apart (numbers_apart p) ys xs
  texts-turned turned xs ys = same-test _ _ (one xs ys) (one ys xs)
    where
      same : (x y : ℕ) → numbers_apart p x y ≡ numbers_apart p y x
      same x y =
          ap (λ (c : Bool). not c || (not (nat_eq x y) && p.apart x y))
          (and-turned (p.is_variable x) (p.is_variable y))
          ∙ ap (λ (c : Bool). not (p.is_variable y && p.is_variable x) || (not c && p.apart x y))
          (same-turned x y)
          ∙ ap (λ (c : Bool). not (p.is_variable y && p.is_variable x) || (not (nat_eq y x) && c))
          (turned x y)

      one : (xs ys : List ℕ) → texts_apart (numbers_apart p) xs ys ≡ true
          → texts_apart (numbers_apart p) ys xs ≡ true
      one xs ys h =
          all-from (λ y. list_all (numbers_apart p y) xs) ys (λ y hy.
          all-from (numbers_apart p y) xs (λ x hx. same y x
          ∙ all-at (numbers_apart p x) ys y
          (all-at (λ n. list_all (numbers_apart p n) ys) xs x h hx) hy))

  parts-turned : ((a b : ℕ) → p.apart a b ≡ p.apart b a) → (entries : List (List ℕ)) (a b : Part)
      → are_parts_apart p entries a b ≡ are_parts_apart p entries b a
  parts-turned turned entries a b =
      ap (λ (c : Bool). c || places_apart p entries (place_in a) (place_in b))
      (same-turned (symbol_of a) (symbol_of b))
      ∙ ap (λ (c : Bool). nat_eq (symbol_of b) (symbol_of a) || c)
      (places-texts entries (place_in a) (place_in b)
      ∙ texts-turned turned (text_for entries (place_in a)) (text_for entries (place_in b))
      ∙ sym (places-texts entries (place_in b) (place_in a)))

  pub group-pairs : ((a b : ℕ) → p.apart a b ≡ p.apart b a)
      → (entries : List (List ℕ)) (parts : List Part)
      → is_group_apart p entries parts ≡ each_pair (are_parts_apart p entries) parts
  group-pairs turned entries parts =
      pairs-is (are_parts_apart p entries) parts (λ a. or_left (nat_eq (symbol_of a) (symbol_of a))
      (places_apart p entries (place_in a) (place_in a)) (eq-same (symbol_of a)))
      (parts-turned turned entries)

-- the symbols of a text that are variables, sorted, each once
pub variables-sorted : (p : NumberedPlace) (text gathered sorted kept : List ℕ)
    → gathered ≡ filter p.is_variable text → IsPermutation gathered sorted
    → kept ≡ dedup nat_eq sorted → HasVariables p text kept
variables-sorted p text gathered sorted kept is moved once n =
    sorted-has gathered sorted kept moved once n ∙ ap (λ (ms : List ℕ). has_number ms n) is
    ∙ has_number-filter p.is_variable text n

-- a number at a place, after one number is set
get-set : (xs : List ℕ) (i j v w : ℕ) (P : Type 0) → slice_get (slice_set xs i v) j ≡ Some w
    → (slice_get xs j ≡ Some w → P) → (i ≡ j → v ≡ w → P) → P
get-set [] i j v w P at old new = old at
get-set (x ∷ xs) zero zero v w P at old new = new refl (cc)
get-set (x ∷ xs) zero (suc j) v w P at old new = old at
get-set (x ∷ xs) (suc i) zero v w P at old new = old at
get-set (x ∷ xs) (suc i) (suc j) v w P at old new =
    get-set xs i j v w P at old (λ is. new (ap (λ (n : ℕ). suc n) is))

get-kept : (xs : List ℕ) (i j v w : ℕ) → slice_get xs i ≡ Some 0 → slice_get xs j ≡ Some (suc w)
    → slice_get (slice_set xs i v) j ≡ Some (suc w)
get-kept [] i j v w none at = at
get-kept (x ∷ xs) zero zero v w none at = absurd (cc)
get-kept (x ∷ xs) zero (suc j) v w none at = at
get-kept (x ∷ xs) (suc i) zero v w none at = at
get-kept (x ∷ xs) (suc i) (suc j) v w none at = get-kept xs i j v w none at

get-there : (xs : List ℕ) (i v : ℕ) → i < length xs → slice_get (slice_set xs i v) i ≡ Some v
get-there [] i v lt = absurd (none i lt)
  where
    none : (i : ℕ) → i < 0 → ⊥
    none i lt = omega (arith, lt)
get-there (x ∷ xs) zero v lt = refl
get-there (x ∷ xs) (suc i) v lt = get-there xs i v (omega (arith, lt))

pub none-there : (xs : List ℕ) (i v : ℕ) → i < length xs → v ≡ get_or xs i v → v ≤ 0
    → slice_get xs i ≡ Some 0
none-there xs i v lt is low = get-is xs i v lt is ∙ ap (λ (n : ℕ). Some n) (omega (arith, low))
  where
    get-is : (xs : List ℕ) (i v : ℕ) → i < length xs → v ≡ get_or xs i v → slice_get xs i ≡ Some v
    get-is [] i v lt is = absurd (none i lt)
      where
        none : (i : ℕ) → i < 0 → ⊥
        none i lt = omega (arith, lt)
    get-is (x ∷ xs) zero v lt is = ap (λ (n : ℕ). Some n) (sym is)
    get-is (x ∷ xs) (suc i) v lt is = get-is xs i v (omega (arith, lt)) is

-- the list of one more text
module _ (p : NumberedPlace) (entries : List (List ℕ)) (s t : Spreads) (i k : ℕ) (vs : List ℕ)
    (known : AreKnown p entries s) (within : i < length s.numbers.items)
    (none : slice_get s.numbers.items i ≡ Some 0) (has : HasVariables p (text_at entries i) vs)
    (numbers : t.numbers.items ≡ slice_set s.numbers.items i (suc k))
    (lists : t.lists ≡ s.lists ++ vs ∷ []) (last : k ≡ length s.lists)
    (tested : t.tested ≡ s.tested) (notes : t.notes ≡ s.notes) where
  pub keeps-more : Keeps s t
  keeps-more j m at =
      ap (λ (ns : List ℕ). slice_get ns j) numbers ∙ get-kept s.numbers.items i j (suc k) m none at

  pub found-more : slice_get t.numbers.items i ≡ Some (suc k)
  found-more =
      ap (λ (ns : List ℕ). slice_get ns i) numbers ∙ get-there s.numbers.items i (suc k) within

  longer : length t.lists ≡ suc (length s.lists)
  longer = omega (arith, ap length lists, length-append s.lists (vs ∷ []))

  pub known-more : AreKnown p entries t
  known-more = record {
    room = ap length numbers ∙ length-set s.numbers.items i (suc k) ∙ known.room;
    lists =
        λ j m at. get-set s.numbers.items i j (suc k) (suc m) (m < length t.lists)
        (ap (λ (ns : List ℕ). slice_get ns j) (sym numbers) ∙ at)
        (λ old. let lt = known.lists j m old in omega (arith, lt, longer))
        (λ same is. omega (arith, is, last, longer));
    variables =
        λ j m at. get-set s.numbers.items i j (suc k) (suc m)
        (HasVariables p (text_at entries j) (slice_index_or t.lists m []))
        (ap (λ (ns : List ℕ). slice_get ns j) (sym numbers) ∙ at)
        (λ old. subst (λ (ws : List ℕ). HasVariables p (text_at entries j) ws) (sym (ap (λ (ls :
        List (List ℕ)).
        slice_index_or ls m
        []) lists ∙ get_or_append_left s.lists (vs ∷ []) [] m (known.lists j m old)))
        (known.variables j m old))
        (λ same is. subst (λ (ws : List ℕ). HasVariables p (text_at entries j) ws) (sym (ap (λ (ls :
        List (List ℕ)).
        slice_index_or ls m
        []) lists ∙ get_or_push s.lists vs [] m (omega (arith, is, last))))
        (subst (λ (n : ℕ). HasVariables p (text_at entries n) vs) same has));
    tested = λ m pair at. known.tested m pair (ap (λ ts. get nat_cmp ts m) (sym tested) ∙ at);
    noted = subst (AreNoted p) (sym notes) known.noted;
  }

-- more is noted of lists
pub known-noted : (p : NumberedPlace) (entries : List (List ℕ)) (s t : Spreads)
    → AreKnown p entries s → t.lists ≡ s.lists → t.numbers ≡ s.numbers → t.tested ≡ s.tested
    → AreNoted p t.notes → AreKnown p entries t
known-noted p entries s t known lists numbers tested noted = record {
  room = ap (λ (ns : Vec ℕ). length ns.items) numbers ∙ known.room;
  lists =
      λ i k at. subst (λ (ls : List (List ℕ)). k < length ls) (sym lists)
      (known.lists i k (ap (λ (ns : Vec ℕ). slice_get ns.items i) (sym numbers) ∙ at));
  variables =
      λ i k at. subst (λ (ls : List (List ℕ)).
      HasVariables p (text_at entries i) (slice_index_or ls k [])) (sym lists)
      (known.variables i k (ap (λ (ns : Vec ℕ). slice_get ns.items i) (sym numbers) ∙ at));
  tested = λ m pair at. known.tested m pair (ap (λ ts. get nat_cmp ts m) (sym tested) ∙ at);
  noted = noted;
}

-- pairs of lists that are noted

pub pair-read : (p : NumberedPlace) (xs ys : List ℕ)
    → is_pair_apart p (written_pair xs ys) ≡ are_variables_apart p xs ys
pair-read p xs ys =
    ap (λ (vs : List ℕ). are_variables_apart p vs (drop (length xs) (xs ++ ys)))
    (take-append_seam xs ys)
    ∙ ap (λ (ws : List ℕ). are_variables_apart p xs ws) (drop-append_seam xs ys)

pub all-get : (f : List ℕ → Bool) (xs : List (List ℕ)) (i : ℕ) (d : List ℕ)
    → list_all f xs ≡ true → i < length xs → f (slice_index_or xs i d) ≡ true
all-get f [] i d all lt = absurd (nowhere i lt)
  where
    nowhere : (i : ℕ) → i < 0 → ⊥
    nowhere i lt = omega (arith, lt)
all-get f (x ∷ xs) zero d all lt = (both-true (f x) (list_all f xs) all).0
all-get f (x ∷ xs) (suc i) d all lt =
    all-get f xs i d (both-true (f x) (list_all f xs) all).1 (omega (arith, lt))

pub all-more : (f : List ℕ → Bool) (xs : List (List ℕ)) (x : List ℕ) → list_all f xs ≡ true
    → f x ≡ true → list_all f (xs ++ x ∷ []) ≡ true
all-more f xs x all one =
    list_all-append f xs (x ∷ []) ∙ and-true (list_all f xs) (f x && true) all
    (and-true (f x) true one refl)

-- the texts of two entries, by their lists
pub lists-apart : (p : NumberedPlace) (entries : List (List ℕ)) (s : Spreads) (i j x y : ℕ)
    → AreKnown p entries s → slice_get s.numbers.items i ≡ Some (suc x)
    → slice_get s.numbers.items j ≡ Some (suc y)
    → are_variables_apart p (slice_index_or s.lists x []) (slice_index_or s.lists y [])
    ≡ texts_apart (numbers_apart p) (text_at entries i) (text_at entries j)
lists-apart p entries s i j x y known at there =
    sym (apart-variables p (text_at entries
    i) (text_at entries j) (slice_index_or s.lists x []) (slice_index_or s.lists y
    []) (known.variables i x at) (known.variables j y there))

-- nothing is known
pub nothing-known : (p : NumberedPlace) (entries : List (List ℕ)) (s : Spreads) (n : ℕ)
    → s.numbers.items ≡ replicate n 0 → length entries ≡ n
    → ((k : ℕ) → get nat_cmp s.tested k ≡ None) → AreNoted p s.notes → AreKnown p entries s
nothing-known p entries s n zeros size untested noted = record {
  room = ap length zeros ∙ length-replicate n 0 ∙ sym size;
  lists = λ i k at. absurd (none n i k (ap (λ (ns : List ℕ). slice_get ns i) (sym zeros) ∙ at));
  variables = λ i k at. absurd (none n i k (ap (λ (ns : List ℕ). slice_get ns i) (sym zeros) ∙ at));
  tested = λ k pair at. absurd (let wrong = sym (untested k) ∙ at in cc);
  noted = noted;
}
  where
    none : (n i k : ℕ) → slice_get (replicate n 0) i ≡ Some (suc k) → ⊥
    none zero i k e = cc
    none (suc n) zero k e = cc
    none (suc n) (suc i) k e = none n i k e
