-- Hexadecimal digits that were read from the left, two for each byte.
use Rattle.std.proofs.Common.{◌≡◌, ◌≢◌, ◌<◌, ◌+◌, ◌*◌, ◌/◌, ◌%◌, ℕ, suc, zero, List, [], ◌∷◌, ◌++◌}
use Rattle.std.proofs.Common.{length}
use Rattle.std.proofs.Common.{drop, get_or, refl, sym, ◌∙◌, ap, arith, append_assoc}
use Rattle.std.specs.Char.{digit_char, digit_value}
use Rattle.std.proofs.lemmas.Str.{digit_value-digit_char}
use Rattle.std.proofs.lemmas.List.{drop_more}
use Rattle.ml_image.specs.Tokens.{hexadecimal}
use Rattle.ml_image.proofs.HexLaws.{hexadecimal-push}
use Rattle.true_facts.specs.Digits.{AreBytes}

-- what is left, if the digits in front spell some bytes and all of them spell bytes
pub left-spelled : (front left bytes : List ℕ) → hexadecimal front ++ left ≡ hexadecimal bytes
    → left ≡ hexadecimal (drop (length front) bytes)
left-spelled [] left bytes h = h
left-spelled (f ∷ front) left [] h = absurd (cc)
left-spelled (f ∷ front) left (b ∷ bytes) h =
    let rest : hexadecimal front ++ left ≡ hexadecimal bytes = cc in
    left-spelled front left bytes rest

drop-bytes : (n : ℕ) (bytes : List ℕ) → AreBytes bytes → AreBytes (drop n bytes)
drop-bytes zero bytes h = h
drop-bytes (suc n) [] h = h
drop-bytes (suc n) (b ∷ bytes) h =
    drop-bytes n bytes (λ k d low. h (suc k) d (omega arith))

-- the digits spell no bytes, if what is left spells none
pub not_spelled : (digits front left bytes : List ℕ) → digits ≡ hexadecimal front ++ left
    → ((more : List ℕ) → AreBytes more → left ≢ hexadecimal more) → AreBytes bytes
    → digits ≡ hexadecimal bytes → ⊥
not_spelled digits front left bytes is none are h =
    none (drop (length front) bytes) (drop-bytes (length front) bytes are)
    (left-spelled front left bytes (sym is ∙ h))

-- no bytes begin with two digits that spell no byte
pub no_byte : (high low : ℕ) (rest more : List ℕ)
    → ((b : ℕ) → b < 256 → high ≡ digit_char (b / 16) → low ≢ digit_char (b % 16))
    → AreBytes more → high ∷ (low ∷ rest) ≡ hexadecimal more → ⊥
no_byte high low rest [] none are h = cc
no_byte high low rest (b ∷ more) none are h =
    let first : high ≡ digit_char (b / 16) = cc in
    let second : low ≡ digit_char (b % 16) = cc in
    none b (are 0 0 (omega arith)) first second

-- there are two digits for each byte
length-hexadecimal : (bytes : List ℕ) → length (hexadecimal bytes) ≡ 2 * length bytes
length-hexadecimal [] = refl
length-hexadecimal (b ∷ bytes) = omega (arith, length-hexadecimal bytes)

pub odd_digits : (digits bytes : List ℕ) → length digits % 2 ≡ 1 → digits ≡ hexadecimal bytes → ⊥
odd_digits digits bytes odd h = omega (arith, ap length h, length-hexadecimal bytes)

-- the two digits of the byte with this index
pub two_digits : (digits : List ℕ) (i d : ℕ) → 2 * i + 1 < length digits
    → drop (2 * i) digits
    ≡ get_or digits (2 * i) d ∷ (get_or digits (2 * i + 1) d ∷ drop (2 * (i + 1)) digits)
two_digits digits i d low =
    let twice : 2 * i + 1 + 1 ≡ 2 * (i + 1) = omega arith in
    let first : 2 * i < length digits = omega arith in
    drop_more digits (2 * i) d first
    ∙ ap (λ (ds : List ℕ). get_or digits (2 * i) d ∷ ds) (drop_more digits (2 * i + 1) d low
    ∙ ap (λ (n : ℕ). get_or digits (2 * i + 1) d ∷ drop n digits) twice)

pub spelled-next : (digits front left rest : List ℕ) (high low b : ℕ)
    → digits ≡ hexadecimal front ++ left → left ≡ high ∷ (low ∷ rest) → high ≡ digit_char (b / 16)
    → low ≡ digit_char (b % 16) → digits ≡ hexadecimal (front ++ b ∷ []) ++ rest
spelled-next digits front left rest high low b is parts first second =
    let pair : left ≡ (digit_char (b / 16) ∷ (digit_char (b % 16) ∷ [])) ++ rest =
    parts ∙ ap (λ (d : ℕ). d ∷ (low ∷ rest)) first
    ∙ ap (λ (d : ℕ). digit_char (b / 16) ∷ (d ∷ rest)) second in
    is ∙ ap (λ (ds : List ℕ). hexadecimal front ++ ds) pair
    ∙ sym (append_assoc (hexadecimal front) (digit_char (b / 16) ∷ (digit_char (b % 16) ∷ [])) rest)
    ∙ ap (λ (ds : List ℕ). ds ++ rest) (sym (hexadecimal-push front b))

pub bytes-push : (front : List ℕ) (b : ℕ) → AreBytes front → b < 256 → AreBytes (front ++ b ∷ [])
bytes-push [] b are low zero d within = low
bytes-push [] b are low (suc k) d within = absurd (omega arith)
bytes-push (f ∷ front) b are low zero d within = are 0 d (omega arith)
bytes-push (f ∷ front) b are low (suc k) d within =
    bytes-push front b (λ j e near. are (suc j) e (omega arith)) low k d (omega arith)

-- ---- bytes that have the same digits

digit_same : (m n : ℕ) → m < 16 → n < 16 → digit_char m ≡ digit_char n → m ≡ n
digit_same m n lm ln h =
    sym (digit_value-digit_char m (omega arith)) ∙ ap digit_value h
    ∙ digit_value-digit_char n (omega arith)

pub same_bytes : (xs ys : List ℕ) → AreBytes xs → AreBytes ys → hexadecimal xs ≡ hexadecimal ys
    → xs ≡ ys
same_bytes [] [] hx hy h = refl
same_bytes [] (y ∷ ys) hx hy h = absurd (cc)
same_bytes (x ∷ xs) [] hx hy h = absurd (cc)
same_bytes (x ∷ xs) (y ∷ ys) hx hy h =
    let high : digit_char (x / 16) ≡ digit_char (y / 16) = cc in
    let low : digit_char (x % 16) ≡ digit_char (y % 16) = cc in
    let rest : hexadecimal xs ≡ hexadecimal ys = cc in
    let small : x < 256 = hx 0 0 (omega arith) in
    let also : y < 256 = hy 0 0 (omega arith) in
    let first : x / 16 ≡ y / 16 = digit_same (x / 16) (y / 16) (omega arith) (omega arith) high in
    let second : x % 16 ≡ y % 16 = digit_same (x % 16) (y % 16) (omega arith) (omega arith) low in
    let same : x ≡ y = omega arith in
    ap (λ (n : ℕ). n ∷ xs) same ∙ ap (λ (ns : List ℕ). y ∷ ns)
    (same_bytes xs ys (λ k d within. hx (suc k) d (omega arith))
    (λ k d within. hy (suc k) d (omega arith)) rest)
