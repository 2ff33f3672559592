-- The text of a character inside a string is one unit there, and denotes the character.
use Rattle.std.proofs.Common.{◌≡◌, ◌<◌, ◌+◌, ◌*◌, ◌/◌, ◌%◌, ℕ, zero, suc, Bool, true, false, List}
use Rattle.std.proofs.Common.{[], ◌∷◌, ◌++◌, length, refl, ap, sym, ◌∙◌, subst, arith, append_assoc}
use Rattle.std.proofs.Common.{◌==◌, ◌&&◌, nat_le, nat_lt, if◌then◌else◌, Option, Some}
use Rattle.std.proofs.lemmas.Bool.Decides.{nat_tests}
use Rattle.std.proofs.lemmas.List.{length-append}
use Rattle.std.proofs.lemmas.Str.{encode_ascii}
use Rattle.std.proofs.lemmas.Str.Ascii.{IsAscii-nil, IsAscii-cons}
use Rattle.std.specs.Str.{IsAscii}
use Rattle.std.specs.Char.{encode_utf8, digit_char}
use lib.Utf8.{scalar}
use Rattle.kore_lex.specs.Escapes.{hex_digit, bind, hex_number, by_number, escape_by_number, single}
use Rattle.kore_lex.specs.Escapes.{escape, further, bad_at}
use Rattle.kore_lex.specs.Pieces.{quote_len}
use Rattle.kore_lex.specs.Value.{unescaped_text}
use Rattle.kore_lex.proofs.Runs.{further-none, further-sum}
use Rattle.kore_print.specs.TokenText.{hexadecimal_digits, numbered_text, character_text}

-- 16 to the power of k
abbrev sixteens : ℕ → ℕ
sixteens zero = 1
sixteens (suc k) = 16 * sixteens k

digit-back : (d : ℕ) → d < 16 → hex_digit (digit_char d) ≡ Some d
digit-back d h = grind (arith, nat_tests)

-- the digits of a number are read as the number
hex-read : (k j c : ℕ) (r : List ℕ) → c < sixteens k
    → hex_number (k + j) 0 (hexadecimal_digits k c ++ r) ≡ hex_number j c r
unfolding hex_number
hex-read zero j c r h =
    let e : 0 ≡ c = omega arith in
    let i : 0 + j ≡ j = omega arith in
    ap (λ (m : ℕ). hex_number m 0 r) i ∙ ap (λ (n : ℕ). hex_number j n r) e
hex-read (suc k) j c r h =
    let d : ℕ = digit_char (c % 16) in
    let i : suc k + j ≡ k + suc j = omega arith in
    let l : c / 16 < sixteens k = omega arith in
    let m : c % 16 < 16 = omega arith in
    let n : 16 * (c / 16) + c % 16 ≡ c = omega arith in
    ap (λ (m : ℕ). hex_number m 0 (hexadecimal_digits (suc k) c ++ r)) i
    ∙ ap (hex_number (k + suc j) 0) (append_assoc (hexadecimal_digits k (c / 16)) (d ∷ []) r)
    ∙ hex-read k (suc j) (c / 16) (d ∷ r) l
    ∙ ap (λ (o : Option ℕ). bind o (λ x. hex_number j (16 * (c / 16) + x) r))
    (digit-back (c % 16) m)
    ∙ ap (λ (n : ℕ). hex_number j n r) n

-- ASCII bytes that are neither a quote nor a backslash
abbrev AllPlain : List ℕ → Type 0
AllPlain [] = Unit {0}
AllPlain (c ∷ cs) = ((c == 34) ≡ false) × ((c == 92) ≡ false) × (c < 128) × AllPlain cs

plain-append : (xs ys : List ℕ) → AllPlain xs → AllPlain ys → AllPlain (xs ++ ys)
plain-append [] ys a b = b
plain-append (x ∷ xs) ys a b = (a.0, a.1, a.2, plain-append xs ys a.3 b)

digit-plain : (d : ℕ) → d < 16
    → ((digit_char d == 34) ≡ false) × ((digit_char d == 92) ≡ false) × (digit_char d < 128)
digit-plain d h = (grind (arith, nat_tests), grind (arith, nat_tests), grind (arith, nat_tests))

digits-plain : (k n : ℕ) → AllPlain (hexadecimal_digits k n)
digits-plain zero n = tt
digits-plain (suc k) n =
    let p = digit-plain (n % 16) (omega arith) in
    plain-append (hexadecimal_digits k (n / 16)) (digit_char (n % 16)
    ∷ []) (digits-plain k (n / 16))
    (p.0, p.1, p.2, tt)

digits-length : (k n : ℕ) → length (hexadecimal_digits k n) ≡ k
digits-length zero n = refl
digits-length (suc k) n =
    let e : length (hexadecimal_digits (suc k) n) ≡ length (hexadecimal_digits k (n / 16)) + 1 =
    length-append (hexadecimal_digits k (n / 16)) (digit_char (n % 16) ∷ []) in
    omega (arith, e, digits-length k (n / 16))

quote-plain : (ds r : List ℕ) → AllPlain ds
    → quote_len 0 (ds ++ r) ≡ further (length ds) (quote_len 0 r)
unfolding quote_len
quote-plain [] r h = sym (further-none (quote_len 0 r))
quote-plain (d ∷ ds) r h =
    rw (h.0, h.1) (ap (further 1) (quote-plain ds r h.3)
    ∙ further-sum 1 (length ds) (suc (length ds)) (quote_len 0 r) (omega arith))

bad-passed : (ds r : List ℕ) → bad_at (length ds) (ds ++ r) ≡ further (length ds) (bad_at 0 r)
unfolding bad_at
bad-passed [] r = sym (further-none (bad_at 0 r))
bad-passed (d ∷ ds) r = ap (further 1) (bad-passed ds r)
    ∙ further-sum 1 (length ds) (suc (length ds)) (bad_at 0 r) (omega arith)

read-passed : (ds r : List ℕ) → unescaped_text (length ds) (ds ++ r) ≡ unescaped_text 0 r
unfolding unescaped_text
read-passed [] r = refl
read-passed (d ∷ ds) r = read-passed ds r

plain-ascii : (ds : List ℕ) → AllPlain ds → IsAscii ds
plain-ascii [] h = IsAscii-nil
plain-ascii (d ∷ ds) h = IsAscii-cons d ds h.2 (plain-ascii ds h.3)

-- the text is one unit of a string, and denotes the character
pub record Stands (c : ℕ) (w : List ℕ) : Type 0 where
  pub quoted : (r : List ℕ) → quote_len 0 (w ++ r) ≡ further (length w) (quote_len 0 r)
  pub good : (r : List ℕ) → bad_at 0 (w ++ r) ≡ further (length w) (bad_at 0 r)
  pub read : (r : List ℕ) → unescaped_text 0 (w ++ r) ≡ encode_utf8 c ++ unescaped_text 0 r
  pub ascii : IsAscii w

stands-itself : (c : ℕ) → c < 128 → (c == 34) ≡ false → (c == 92) ≡ false → Stands c (c ∷ [])
unfolding quote_len bad_at unescaped_text
stands-itself c l q b = record {
  quoted = λ r. rw (q, b) refl;
  good = λ r. rw b refl;
  read = λ r. rw b (ap (λ (t : List ℕ). t ++ unescaped_text 0 r) (sym (encode_ascii c l)));
  ascii = IsAscii-cons c [] l IsAscii-nil;
}

stands-letter : (x c : ℕ) → x < 128 → ((r : List ℕ) → escape (x ∷ r) ≡ single c)
    → Stands c (92 ∷ x ∷ [])
unfolding quote_len bad_at unescaped_text
stands-letter x c l h = record {
  quoted = λ r. further-sum 1 1 2 (quote_len 0 r) refl;
  good = λ r. rw (h r) (further-sum 1 1 2 (bad_at 0 r) refl);
  read = λ r. rw (h r) refl;
  ascii = IsAscii-cons 92 (x ∷ []) (omega arith) (IsAscii-cons x [] l IsAscii-nil);
}

stands-numbered : (x k c : ℕ) → x < 128 → ((r : List ℕ) → escape (x ∷ r) ≡ escape_by_number k r)
    → c < sixteens k → scalar c ≡ true → Stands c (92 ∷ x ∷ hexadecimal_digits k c)
unfolding quote_len bad_at unescaped_text hex_number
stands-numbered x k c l h s u =
    let ds : List ℕ = hexadecimal_digits k c in
    let n : k + 1 ≡ suc (length ds) = omega (arith, digits-length k c) in
    let z : k + 0 ≡ k = omega arith in
    let number : (r : List ℕ) → hex_number k 0 (ds ++ r) ≡ Some c =
    λ r. ap (λ (m : ℕ). hex_number m 0 (ds ++ r)) (sym z) ∙ hex-read k 0 c r s ∙ rw u refl in
    let found : (r : List ℕ) → escape (x ∷ (ds ++ r)) ≡ by_number k (Some c) =
    λ r. h (ds ++ r) ∙ ap (by_number k) (number r) in
    record {
      quoted =
          λ r. ap (λ (o : Option ℕ). further 1 (further 1 o)) (quote-plain ds r (digits-plain k c))
          ∙ ap (further 1)
          (further-sum 1 (length ds) (suc (length ds)) (quote_len 0 r) (omega arith))
          ∙ further-sum 1 (suc (length ds)) (suc (suc (length ds))) (quote_len 0 r) (omega arith);
      good = λ r. rw (found r, n) (ap (λ (o : Option ℕ). further 1 (further 1 o)) (bad-passed ds r)
          ∙ ap (further 1) (further-sum 1 (length ds) (suc (length ds)) (bad_at 0 r) (omega arith))
          ∙ further-sum 1 (suc (length ds)) (suc (suc (length ds))) (bad_at 0 r) (omega arith));
      read = λ r. rw (found r, n) (ap (λ (t : List ℕ). encode_utf8 c ++ t) (read-passed ds r));
      ascii =
          IsAscii-cons 92 (x ∷ ds) (omega arith)
          (IsAscii-cons x ds l (plain-ascii ds (digits-plain k c)));
    }

stands-if : (b : Bool) (c : ℕ) (x y : List ℕ) → (b ≡ true → Stands c x) → (b ≡ false → Stands c y)
    → Stands c (if b then x else y)
stands-if true c x y h k = h refl
stands-if false c x y h k = k refl

same-number : (c d : ℕ) → (c == d) ≡ true → c ≡ d
same-number c d h = grind (arith, nat_tests)

letter-for : (x c d : ℕ) → (c == d) ≡ true → x < 128 → ((r : List ℕ) → escape (x ∷ r) ≡ single d)
    → Stands c (92 ∷ x ∷ [])
letter-for x c d e l h =
    subst (λ (c : ℕ). Stands c (92 ∷ x ∷ [])) (sym (same-number c d e)) (stands-letter x d l h)

between : (c : ℕ) → (nat_le 32 c && nat_le c 126) ≡ true → c < 128
between c h = grind (arith, nat_tests)

below : (c d : ℕ) → nat_lt c d ≡ true → c < d
below c d h = grind (arith, nat_tests)

scalar-small : (c : ℕ) → scalar c ≡ true → c < 4294967296
scalar-small c h = grind (arith, nat_tests)

stands-by-number : (c : ℕ) → scalar c ≡ true → Stands c (numbered_text c)
unfolding escape
stands-by-number c s =
    stands-if (nat_lt c 256) c (92 ∷ 120 ∷ hexadecimal_digits 2 c) _
    (λ h. stands-numbered 120 2 c (omega arith) (λ r. refl) (below c 256 h) s)
    (λ i. stands-if (nat_lt c 65536) c (92 ∷ 117 ∷ hexadecimal_digits 4 c) (92 ∷ 85
    ∷ hexadecimal_digits 8 c)
    (λ h. stands-numbered 117 4 c (omega arith) (λ r. refl) (below c 65536 h) s)
    (λ h. stands-numbered 85 8 c (omega arith) (λ r. refl) (scalar-small c s) s))

-- the text of each character denotes the character
pub stands : (c : ℕ) → scalar c ≡ true → Stands c (character_text c)
unfolding character_text escape
stands c s =
    stands-if (c == 34) c (92 ∷ 34 ∷ []) _ (λ h. letter-for 34 c 34 h (omega arith) (λ r. refl))
    (λ q.
    stands-if (c == 92) c (92 ∷ 92 ∷ []) _ (λ h. letter-for 92 c 92 h (omega arith) (λ r. refl))
    (λ b. stands-if (c == 10) c (92 ∷ 110 ∷ []) _
    (λ h. letter-for 110 c 10 h (omega arith) (λ r. refl))
    (λ i. stands-if (c == 13) c (92 ∷ 114 ∷ []) _
    (λ h. letter-for 114 c 13 h (omega arith) (λ r. refl))
    (λ i.
    stands-if (c == 9) c (92 ∷ 116 ∷ []) _ (λ h. letter-for 116 c 9 h (omega arith) (λ r. refl))
    (λ i. stands-if (c == 12) c (92 ∷ 102 ∷ []) _
    (λ h. letter-for 102 c 12 h (omega arith) (λ r. refl))
    (λ i. stands-if (nat_le 32 c && nat_le c 126) c (c ∷ []) _
    (λ h. stands-itself c (between c h) q b)
    (λ i. stands-by-number c s)))))))
