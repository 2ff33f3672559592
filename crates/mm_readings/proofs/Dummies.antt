-- How variables are read that a theorem's proof uses and its frame does not have: a pattern
-- variable as `\bot`, a sort variable as any sort, and an object variable as a new one.
use Rattle.std.proofs.Common.{◌≡◌, ℕ, ◌<◌, ◌≤◌, ◌+◌, Bool, true, false, List, [], ◌∷◌, refl}
use Rattle.std.proofs.Common.{sym, ◌∙◌, subst, arith}
use Rattle.std.specs.Prelude.{◌==◌, ◌||◌, if◌then◌else◌, max, codes, bytes_eq}
use Rattle.std.specs.List.{list_any}
use Rattle.std.proofs.lemmas.Bool.Decides.{nat_tests}
use Rattle.std.proofs.lemmas.Slice.Eq.{bytes_eq-Decides}
use Rattle.mm_text.specs.Bytes.{Token}
use Rattle.mm_database.specs.Frames.{Hypothesis, floating, essential, types}
use Rattle.ml_pat.specs.Patterns.{Bot}
use Rattle.mm_readings.specs.Letters.{Letter, nullary_letter, object_letter, sort_letter, letter_of}
use Rattle.mm_readings.specs.Readings.{Reading, has_object, ShareNone}
use Rattle.mm_readings.proofs.Objects.{no_object}

pub or_right : (a b : Bool) → b ≡ true → (a || b) ≡ true
or_right true b h = refl
or_right false b h = h

pub or_left : (a b : Bool) → a ≡ true → (a || b) ≡ true
or_left a b h = rw h refl

pub not_both : (a : Bool) → a ≡ true → a ≡ false → ⊥
not_both a h k = let bad : true ≡ false = sym h ∙ k in cc

pub same : (a b : Token) → bytes_eq a b ≡ true → a ≡ b
same a b h = (bytes_eq-Decides a b).0 h

pub itself : (a : Token) → bytes_eq a a ≡ true
itself a = (bytes_eq-Decides a a).1 refl

-- ---- new object variables

abbrev pub bound : List Letter → ℕ
bound [] = 0
bound (object_letter x ∷ letters) = max (x + 1) (bound letters)
bound (l ∷ letters) = bound letters

under_bound : (z : ℕ) (letters : List Letter) → has_object z letters ≡ true → z < bound letters
under_bound z [] h = absurd (cc)
under_bound z (object_letter x ∷ letters) h =
    go (z == x) refl h (under_bound z letters)
  where
    go : (b : Bool) → (z == x) ≡ b → (b || has_object z letters) ≡ true
        → (has_object z letters ≡ true → z < bound letters)
        → z < max (x + 1) (bound letters)
    go true e k rest = let n : z ≡ x = grind (arith, nat_tests) in omega arith
    go false e k rest = let n : z < bound letters = rest k in omega arith
under_bound z (l ∷ letters) h = under_bound z letters h

-- above each object variable in the texts of some variables
abbrev pub base : Reading → List Hypothesis → ℕ
base m [] = 0
base m (floating label typecode variable ∷ hs) = max (bound (m variable)) (base m hs)
base m (essential label statement ∷ hs) = base m hs

pub under_base : (z : ℕ) (m : Reading) (hs : List Hypothesis) (t : Token)
    → list_any (types t) hs ≡ true → has_object z (m t) ≡ true → z < base m hs
under_base z m [] t typed h = absurd (cc)
under_base z m (essential label statement ∷ hs) t typed h = under_base z m hs t typed h
under_base z m (floating label typecode variable ∷ hs) t typed h =
    go (bytes_eq variable t) refl typed (under_base z m hs t)
  where
    go : (b : Bool) → bytes_eq variable t ≡ b → (b || list_any (types t) hs) ≡ true
        → (list_any (types t) hs ≡ true → has_object z (m t) ≡ true → z < base m hs)
        → z < max (bound (m variable)) (base m hs)
    go true e k rest =
        let n : z < bound (m variable) =
        under_bound z (m variable)
        (subst (λ (w : Token). has_object z (m w) ≡ true) (sym (same variable t e)) h) in
        omega arith
    go false e k rest = let n : z < base m hs = rest k h in omega arith

abbrev pub typed_text : ℕ → Token → List Letter
typed_text n typecode =
    if bytes_eq typecode (codes "#Pattern") then nullary_letter Bot ∷ []
    else (if bytes_eq typecode (codes "#Sort") then sort_letter 0 ∷ [] else object_letter n ∷ [])

-- the text of a variable that only the proof has, by its type and its place; of another token, its
-- letter
abbrev pub dummy : (Token → ℕ) → ℕ → List Hypothesis → Token → List Letter
dummy number n [] t = letter_of number t ∷ []
dummy number n (floating label typecode variable ∷ hs) t =
    if bytes_eq variable t then typed_text n typecode else dummy number (n + 1) hs t
dummy number n (essential label statement ∷ hs) t = dummy number n hs t

in_typed_text : (z n : ℕ) (typecode : Token) → has_object z (typed_text n typecode) ≡ true → z ≡ n
in_typed_text z n typecode h =
    go (bytes_eq typecode (codes "#Pattern")) (bytes_eq typecode (codes "#Sort")) h
  where
    go : (p s : Bool) → has_object z (if p then nullary_letter Bot ∷ []
        else (if s then sort_letter 0 ∷ [] else object_letter n ∷ [])) ≡ true → z ≡ n
    go true s k = absurd (cc)
    go false true k = absurd (cc)
    go false false k = one (z == n) refl k
      where
        one : (b : Bool) → (z == n) ≡ b → (b || false) ≡ true → z ≡ n
        one true e l = grind (arith, nat_tests)
        one false e l = absurd (cc)

pub in_dummy : (number : Token → ℕ) (z n : ℕ) (hs : List Hypothesis) (t : Token)
    → has_object z (dummy number n hs t) ≡ true → n ≤ z
in_dummy number z n [] t h = absurd (not_both _ h (no_object z number t))
in_dummy number z n (essential label statement ∷ hs) t h = in_dummy number z n hs t h
in_dummy number z n (floating label typecode variable ∷ hs) t h =
    go (bytes_eq variable t) h (in_dummy number z (n + 1) hs t)
  where
    go : (b : Bool) → has_object z (if b then typed_text n typecode else dummy number (n + 1) hs t)
        ≡ true → (has_object z (dummy number (n + 1) hs t) ≡ true → n + 1 ≤ z) → n ≤ z
    go true k rest = let e : z ≡ n = in_typed_text z n typecode k in omega arith
    go false k rest = let e : n + 1 ≤ z = rest k in omega arith

pub dummies_share : (number : Token → ℕ) (n : ℕ) (hs : List Hypothesis) (x y : Token)
    → bytes_eq x y ≡ false → ShareNone (dummy number n hs x) (dummy number n hs y)
dummies_share number n [] x y differ = λ z i j. not_both _ i (no_object z number x)
dummies_share number n (essential label statement ∷ hs) x y differ =
    dummies_share number n hs x y differ
dummies_share number n (floating label typecode variable ∷ hs) x y differ =
    go (bytes_eq variable x) (bytes_eq variable y) refl refl
    (dummies_share number (n + 1) hs x y differ)
  where
    go : (a b : Bool) → bytes_eq variable x ≡ a → bytes_eq variable y ≡ b
        → ShareNone (dummy number (n + 1) hs x) (dummy number (n + 1) hs y)
        → ShareNone (if a then typed_text n typecode else dummy number (n + 1) hs x)
        (if b then typed_text n typecode else dummy number (n + 1) hs y)
    go true true a b rest =
        absurd (not_both _ ((bytes_eq-Decides x y).1
        (sym (same variable x a) ∙ same variable y b)) differ)
    go true false a b rest = λ z i j.
        let e : z ≡ n = in_typed_text z n typecode i in
        let k : n + 1 ≤ z = in_dummy number z (n + 1) hs y j in
        omega arith
    go false true a b rest = λ z i j.
        let e : z ≡ n = in_typed_text z n typecode j in
        let k : n + 1 ≤ z = in_dummy number z (n + 1) hs x i in
        omega arith
    go false false a b rest = rest

pub untyped_dummy : (number : Token → ℕ) (n : ℕ) (hs : List Hypothesis) (t : Token)
    → list_any (types t) hs ≡ false → dummy number n hs t ≡ letter_of number t ∷ []
untyped_dummy number n [] t h = refl
untyped_dummy number n (essential label statement ∷ hs) t h = untyped_dummy number n hs t h
untyped_dummy number n (floating label typecode variable ∷ hs) t h =
    go (bytes_eq variable t) h (untyped_dummy number (n + 1) hs t)
  where
    go : (b : Bool) → (b || list_any (types t) hs) ≡ false
        → (list_any (types t) hs ≡ false
        → dummy number (n + 1) hs t ≡ letter_of number t ∷ [])
        → (if b then typed_text n typecode else dummy number (n + 1) hs t)
        ≡ letter_of number t ∷ []
    go true k rest = absurd (cc)
    go false k rest = rest k
