-- Laws of lists and of tests on them.
use Rattle.std.proofs.Common.{◌≡◌, ℕ, zero, suc, ◌+◌, ◌<◌, arith, Bool, true, false, cond, List, []}
use Rattle.std.proofs.Common.{◌∷◌, ◌++◌, map, take, drop, get_or, length, refl, ap, sym, ◌∙◌}
use Rattle.std.specs.Prelude.{Option, Some, None, is_some, option_map, find, filter_map, flat_map}
use Rattle.std.specs.Prelude.{◌||◌}
use Rattle.std.specs.List.{list_any, cons_option, position_from}
use Rattle.std.specs.Str.{bytes_eq}
use Rattle.rule_core.specs.Named.{number_of_name}
use Rattle.std.proofs.lemmas.List.{take_more, drop_more, map-append, append-nil, take-append-drop}
use Rattle.std.proofs.lemmas.List.Elements.{filter_map-append}

pub is_some-map : {X Y : Type 0} (f : X → Y) (o : Option X) → is_some (option_map f o) ≡ is_some o
is_some-map f None = refl
is_some-map f (Some x) = refl

is_some-cond : {X : Type 0} (b : Bool) (x : X) (o : Option X)
    → is_some (cond b (Some x) o) ≡ (b || is_some o)
is_some-cond true x o = refl
is_some-cond false x o = refl

-- a list has an item that passes a test if and only if a first one is found
pub is_some-find : {X : Type 0} (test : X → Bool) (xs : List X)
    → is_some (find test xs) ≡ list_any test xs
is_some-find test [] = refl
is_some-find test (x ∷ xs) =
    is_some-cond (test x) x (find test xs) ∙ ap (λ (b : Bool). test x || b) (is_some-find test xs)

-- ---- a loop's next item

pub take_step : {X : Type 0} (xs : List X) (i : ℕ) (x : X) → i < length xs → x ≡ get_or xs i x
    → take (i + 1) xs ≡ take i xs ++ x ∷ []
take_step xs i x lt is = take_more xs i x lt ∙ ap (λ y. take i xs ++ y ∷ []) (sym is)

pub drop_step : {X : Type 0} (xs : List X) (i : ℕ) (x : X) → i < length xs → x ≡ get_or xs i x
    → drop i xs ≡ x ∷ drop (i + 1) xs
drop_step xs i x lt is = drop_more xs i x lt ∙ ap (λ y. y ∷ drop (i + 1) xs) (sym is)

-- if h keeps the next item, it keeps one more of the items so far
pub filter_map_some : {X Y Z : Type 0} (f : X → Y) (h : Y → Option Z) (xs : List X) (i : ℕ) (x : X)
    (z : Z) → i < length xs → x ≡ get_or xs i x → h (f x) ≡ Some z
    → filter_map h (map f (take (i + 1) xs)) ≡ filter_map h (map f (take i xs)) ++ z ∷ []
filter_map_some f h xs i x z lt is e =
    ap (λ ys. filter_map h (map f ys)) (take_step xs i x lt is)
    ∙ ap (filter_map h) (map-append f (take i xs) (x ∷ []))
    ∙ filter_map-append h (map f (take i xs)) (f x ∷ [])
    ∙ ap (λ o. filter_map h (map f (take i xs)) ++ cons_option o []) e

-- if h does not keep the next item, it keeps no more
pub filter_map_none : {X Y Z : Type 0} (f : X → Y) (h : Y → Option Z) (xs : List X) (i : ℕ) (x : X)
    → i < length xs → x ≡ get_or xs i x → h (f x) ≡ None
    → filter_map h (map f (take (i + 1) xs)) ≡ filter_map h (map f (take i xs))
filter_map_none f h xs i x lt is e =
    ap (λ ys. filter_map h (map f ys)) (take_step xs i x lt is)
    ∙ ap (filter_map h) (map-append f (take i xs) (x ∷ []))
    ∙ filter_map-append h (map f (take i xs)) (f x ∷ [])
    ∙ ap (λ o. filter_map h (map f (take i xs)) ++ cons_option o []) e
    ∙ append-nil (filter_map h (map f (take i xs)))

-- ---- places

within_cond : (b : Bool) (i j n : ℕ) (o : Option ℕ) → (o ≡ Some j → j < i + 1 + n)
    → cond b (Some i) o ≡ Some j → j < i + suc n
within_cond true i j n o rest e = let same : i ≡ j = cc in omega arith
within_cond false i j n o rest e = let lt = rest e in omega arith

pub position_within : {K : Type 0} (test : K → Bool) (i : ℕ) (xs : List K) (j : ℕ)
    → position_from test i xs ≡ Some j → j < i + length xs
position_within test i [] j e = absurd (let no : ⊥ = cc in no)
position_within test i (x ∷ xs) j e =
    within_cond (test x) i j (length xs) (position_from test (i + 1) xs)
    (position_within test (i + 1) xs j) e

pub number_within : {V : Type 0} (es : List (List ℕ × V)) (name : List ℕ) (i : ℕ)
    → number_of_name es name ≡ Some i → i < length es
number_within {V} es name i e =
    omega (arith, position_within (λ (x : List ℕ × V). bytes_eq name x.0) 0 es i e)

pub map_step : {X Y : Type 0} (f : X → Y) (xs : List X) (i : ℕ) (x : X) → i < length xs
    → x ≡ get_or xs i x → map f (take (i + 1) xs) ≡ map f (take i xs) ++ f x ∷ []
map_step f xs i x lt is = ap (map f) (take_step xs i x lt is) ∙ map-append f (take i xs) (x ∷ [])

pub none_from : {X : Type 0} (o : Option X) → ((x : X) → o ≡ Some x → ⊥) → o ≡ None
none_from None never = refl
none_from (Some x) never = absurd (never x refl)

first_nil : {X : Type 0} (xs ys : List X) → xs ++ ys ≡ [] → xs ≡ []
first_nil [] ys e = refl
first_nil (x ∷ xs) ys e = absurd (let never : ⊥ = cc in never)

rest_nil : {X : Type 0} (xs ys : List X) → xs ++ ys ≡ [] → ys ≡ []
rest_nil [] ys e = e
rest_nil (x ∷ xs) ys e = absurd (let never : ⊥ = cc in never)

-- if all items together give nothing, each of them gives nothing
pub flat_nil_at : {X Y Z : Type 0} (F : Y → List Z) (f : X → Y) (xs : List X) (i : ℕ) (x : X)
    → i < length xs → x ≡ get_or xs i x → flat_map F (map f xs) ≡ [] → F (f x) ≡ []
flat_nil_at F f [] i x lt is e = absurd (omega arith)
flat_nil_at F f (y ∷ ys) zero x lt is e =
    ap (λ z. F (f z)) is ∙ first_nil (F (f y)) (flat_map F (map f ys)) e
flat_nil_at F f (y ∷ ys) (suc i) x lt is e =
    flat_nil_at F f ys i x (omega arith) is (rest_nil (F (f y)) (flat_map F (map f ys)) e)

-- a list, split at one of its items
pub split_at : {X : Type 0} (xs : List X) (i : ℕ) (x : X) → i < length xs → x ≡ get_or xs i x
    → xs ≡ take i xs ++ x ∷ drop (i + 1) xs
split_at xs i x lt is =
    sym (take-append-drop i xs) ∙ ap (λ ys. take i xs ++ ys) (drop_step xs i x lt is)
