-- Where object variables stand in a text that is put together.
use Rattle.std.proofs.Common.{◌≡◌, ℕ, Bool, true, false, List, [], ◌∷◌, ◌++◌, refl, sym, ap, ◌∙◌}
use Rattle.std.proofs.Common.{subst}
use Rattle.std.specs.Prelude.{◌||◌, ◌&&◌, if◌then◌else◌, take, codes, bytes_eq}
use Rattle.std.specs.List.{list_any, list_all}
use Rattle.std.proofs.lemmas.Slice.Eq.{bytes_eq-Decides}
use Rattle.mm_text.specs.Bytes.{Token, has_token}
use Rattle.mm_readings.specs.Letters.{Letter}
use Rattle.mm_readings.specs.Letters.{object_letter, letter_of, letter_among, header_letters}
use Rattle.mm_readings.specs.Letters.{constant_letter, sort_letter, word_letter, other_word}
use Rattle.mm_readings.specs.Readings.{Reading, put, is_object, has_object}

-- ---- the letter of a constant is no object variable

abbrev is_any_object : Letter → Bool
is_any_object (object_letter x) = true
is_any_object l = false

none_object : (x : ℕ) (l : Letter) → is_any_object l ≡ false → is_object x l ≡ false
none_object x (object_letter y) h = absurd (cc)
none_object x l h = refl

chosen : (b : Bool) (k l : Letter) → is_any_object k ≡ false → is_any_object l ≡ false
    → is_any_object (if b then k else l) ≡ false
chosen true k l h j = h
chosen false k l h j = j

neither : (a b : Bool) → (a || b) ≡ false → (a ≡ false) × (b ≡ false)
neither true b h = absurd (cc)
neither false b h = (refl, h)

among : (letters : List (Token × Letter)) (number : Token → ℕ) (t : Token)
    → list_any (λ (w : Token × Letter). is_any_object w.1) letters ≡ false
    → is_any_object (letter_among letters number t) ≡ false
among [] number t h =
    chosen (bytes_eq (take 2 t) (codes "s:")) (sort_letter (number t))
    (if bytes_eq (take 2 t) (codes "f:") || bytes_eq (take 2 t) (codes "d:")
    then constant_letter (number t) else word_letter (other_word t)) refl
    (chosen (bytes_eq (take 2 t) (codes "f:") || bytes_eq (take 2 t) (codes "d:"))
    (constant_letter (number t)) (word_letter (other_word t)) refl refl)
among ((other, l) ∷ letters) number t h =
    let b : (is_any_object l ≡ false)
    × (list_any (λ (w : Token × Letter). is_any_object w.1) letters ≡ false) =
    neither (is_any_object l) _ h in
    chosen (bytes_eq other t) l (letter_among letters number t) b.0 (among letters number t b.1)

pub no_object : (x : ℕ) (number : Token → ℕ) (t : Token)
    → has_object x (letter_of number t ∷ []) ≡ false
no_object x number t =
    rw (none_object x (letter_of number t) (among header_letters number t refl)) refl

-- ---- an object variable of a text stands in the text of one of its tokens

either : (a b : Bool) → (a || b) ≡ true → (a ≡ false) → b ≡ true
either true b h k = absurd (cc)
either false b h k = h

has_object-append : (x : ℕ) (xs ys : List Letter)
    → has_object x (xs ++ ys) ≡ (has_object x xs || has_object x ys)
has_object-append x [] ys = refl
has_object-append x (l ∷ xs) ys =
    ap (λ (b : Bool). is_object x l || b) (has_object-append x xs ys)
    ∙ regrouped (is_object x l) (has_object x xs) (has_object x ys)
  where
    regrouped : (a b c : Bool) → (a || (b || c)) ≡ ((a || b) || c)
    regrouped true b c = refl
    regrouped false b c = refl

pub stands_in : (x : ℕ) (m : Reading) (tokens : List Token) → has_object x (put m tokens) ≡ true
    → (t : Token) × (has_token tokens t ≡ true) × (has_object x (m t) ≡ true)
stands_in x m [] h = absurd (cc)
stands_in x m (t ∷ tokens) h =
    go (has_object x (m t)) refl (sym (has_object-append x (m t) (put m tokens)) ∙ h)
    (stands_in x m tokens)
  where
    behind : (w : Token) (a : Bool) → has_token tokens w ≡ true
        → (a || has_token tokens w) ≡ true
    behind w true k = refl
    behind w false k = k

    go : (b : Bool) → has_object x (m t) ≡ b
        → (has_object x (m t) || has_object x (put m tokens)) ≡ true
        → (has_object x (put m tokens) ≡ true
        → (w : Token) × (has_token tokens w ≡ true) × (has_object x (m w) ≡ true))
        → (w : Token) × (has_token (t ∷ tokens) w ≡ true) × (has_object x (m w) ≡ true)
    go true here k rest =
        (t, rw ((bytes_eq-Decides t t).1 refl) refl, here)
    go false here k rest =
        let w : (w : Token) × (has_token tokens w ≡ true) × (has_object x (m w) ≡ true) =
        rest (either (has_object x (m t)) (has_object x (put m tokens)) k here) in
        (w.0, behind w.0 (bytes_eq t w.0) w.1, w.2)

-- a test that each token passes is passed by a token of the list
pub passes : (test : Token → Bool) (tokens : List Token) (t : Token) → list_all test tokens ≡ true
    → has_token tokens t ≡ true → test t ≡ true
passes test [] t h k = absurd (cc)
passes test (other ∷ tokens) t h k =
    go (bytes_eq other t) (test other) refl refl h k (passes test tokens t)
  where
    go : (same first : Bool) → bytes_eq other t ≡ same → test other ≡ first
        → (first && list_all test tokens) ≡ true → (same || has_token tokens t) ≡ true
        → (list_all test tokens ≡ true → has_token tokens t ≡ true → test t ≡ true)
        → test t ≡ true
    go same false e d p q rest = absurd (cc)
    go true true e d p q rest =
        subst (λ (w : Token). test w ≡ true) ((bytes_eq-Decides other t).0 e) d
    go false true e d p q rest = rest p q
