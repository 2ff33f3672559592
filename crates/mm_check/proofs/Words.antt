-- The words of a text, one after another.
use Rattle.std.proofs.Common.{◌≡◌, ℕ, ◌+◌, suc, Bool, true, false, cond, List, [], ◌∷◌}
use Rattle.std.proofs.Common.{take, drop, length, ◌-◌, refl, sym, ◌∙◌, subst, arith}
use Rattle.std.specs.Prelude.{Option, Some, None, IsTrue, position, ◌==◌, bytes_eq}
use Rattle.std.specs.List.{position_from}
use Rattle.std.proofs.lemmas.List.{take_all, length-drop}
use Rattle.std.specs.Borrow.{Bor}
use Rattle.std.specs.Cmp.Lexicographic.{pointwise}
use Rattle.std.proofs.lemmas.Bool.{and_parts}
use Rattle.std.proofs.lemmas.Iterator.Adapters.{position_from-zero}
use Rattle.std.specs.Cmp.Derive.{both_true}
use Rattle.std.proofs.lemmas.Slice.Eq.{bytes_eq-Decides}
use Rattle.mm_text.specs.Bytes.{Token}
use Rattle.mm_header.specs.HeaderRows.{words_of}
use Rattle.mm_check.specs.Stated.{words}

-- the place of the first space, from a place on
abbrev AtSpace : List ℕ → Option ℕ → ℕ → Type 0
AtSpace text None i = words_of text ≡ text ∷ []
AtSpace text (Some n) i = (k : ℕ) × ((n ≡ i + k)
    × (words_of text ≡ take k text ∷ words_of (drop (k + 1) text)))

space_found : (text : List ℕ) (i : ℕ)
    → AtSpace text (position_from (λ (b : ℕ). b == 32) i text) i
space_found [] i = refl
space_found (b ∷ text) i = go (b == 32) (words_of text)
    (position_from (λ (b : ℕ). b == 32) (i + 1) text) refl refl (space_found text (i + 1))
  where
    go : (t : Bool) (ws : List Token) (o : Option ℕ) → (b == 32) ≡ t → words_of text ≡ ws
        → AtSpace text o (i + 1) → AtSpace (b ∷ text) (cond t (Some i) o) i
    go true ws o is all rest = (0, (omega arith, rw is refl))
    go false ws None is all rest = rw (is, rest) refl
    go false ws (Some n) is all rest =
        let next : suc rest.0 + 1 ≡ suc (rest.0 + 1) = omega arith in
        (suc rest.0, (omega (arith, rest.1.0), rw (is, rest.1.1, next) refl))

place_of : (text : List ℕ) (o : Option ℕ) → position (λ (b : ℕ). b == 32) text ≡ o
    → AtSpace text o 0
place_of text o at =
    let same : position_from (λ (b : ℕ). b == 32) 0 text ≡ o =
    sym (position_from-zero (λ (b : ℕ). b == 32) text) ∙ at in
    subst (λ (p : Option ℕ). AtSpace text p 0) same (space_found text 0)

pub word_first : (text : List ℕ) (k : ℕ) → position (λ (b : ℕ). b == 32) text ≡ Some k
    → words_of text ≡ take k text ∷ words_of (drop (k + 1) text)
word_first text k at =
    let found : AtSpace text (Some k) 0 = place_of text (Some k) at in
    let same : k ≡ found.0 = omega (arith, found.1.0) in rw same found.1.1

pub word_last : (text : List ℕ) → position (λ (b : ℕ). b == 32) text ≡ None
    → words_of text ≡ text ∷ []
word_last text at = place_of text None at

-- ---- equal words

abbrev Test : Type 0
Test = Token → Token → Bool

all_same : (eq : Test) → ((x y : Token) → eq x y ≡ true → x ≡ y) → (xs ys : List (Bor Token))
    → pointwise (λ (x y : Bor Token). eq x.now y.now) xs ys ≡ true → words xs ≡ words ys
all_same eq sound [] [] h = refl
all_same eq sound [] (y ∷ ys) h = let no : ⊥ = cc in absurd no
all_same eq sound (x ∷ xs) [] h = let no : ⊥ = cc in absurd no
all_same eq sound (x ∷ xs) (y ∷ ys) h =
    let parts : (eq x.now y.now ≡ true)
    × (pointwise (λ (x y : Bor Token). eq x.now y.now) xs ys ≡ true) =
    and_parts (eq x.now y.now) (pointwise (λ (x y : Bor Token). eq x.now y.now) xs ys) h in
    let here : x.now ≡ y.now = sound x.now y.now parts.0 in
    let rest : words xs ≡ words ys = all_same eq sound xs ys parts.1 in
    rw (here, rest) refl

same_all : (eq : Test) → ((x : Token) → eq x x ≡ true) → (xs ys : List (Bor Token))
    → words xs ≡ words ys → pointwise (λ (x y : Bor Token). eq x.now y.now) xs ys ≡ true
same_all eq whole [] [] h = refl
same_all eq whole [] (y ∷ ys) h = let no : ⊥ = cc in absurd no
same_all eq whole (x ∷ xs) [] h = let no : ⊥ = cc in absurd no
same_all eq whole (x ∷ xs) (y ∷ ys) h =
    let here : x.now ≡ y.now = cc in
    let rest : words xs ≡ words ys = cc in
    both_true (rw here (whole y.now)) (same_all eq whole xs ys rest)

pub words_same : (xs ys : List (Bor Token))
    → IsTrue (pointwise (λ (x y : Bor Token). bytes_eq x.now y.now) xs ys)
    → words xs ≡ words ys
words_same xs ys h = all_same bytes_eq (λ x y. (bytes_eq-Decides x y).0) xs ys h

pub words_equal : (xs ys : List (Bor Token)) → words xs ≡ words ys
    → IsTrue (pointwise (λ (x y : Bor Token). bytes_eq x.now y.now) xs ys)
words_equal xs ys h = same_all bytes_eq (λ x. (bytes_eq-Decides x x).1 refl) xs ys h

-- the rest of a text, as a slice up to its end
pub to_end : (text : List ℕ) (k : ℕ) → take (length text - k) (drop k text) ≡ drop k text
to_end text k =
    take_all (length text - k) (drop k text) (omega (arith, length-drop k text))
