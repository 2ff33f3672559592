-- A number has one spelling, which is read back.
use Rattle.std.proofs.Common.{◌≡◌, ℕ, ◌+◌, ◌-◌, ◌*◌, ◌^◌, ◌≤◌, Bool, true, false, List, [], ◌∷◌}
use Rattle.std.proofs.Common.{refl, ap, sym, ◌∙◌, arith, if◌then◌else◌}
use Rattle.std.specs.Prelude.{Some, None, nat_le, ◌&&◌, ◌==◌}
use Rattle.std.proofs.lemmas.Bool.Decides.{nat_tests}
use Rattle.std.proofs.lemmas.List.{append_cancel_left}
use Rattle.mm_text.specs.Compressed.{Letter, last_digit, digit, saves, no_letter, letter_of, digits}
use Rattle.mm_text.specs.Compressed.{before_next, steps_of_letter, joined_steps, steps_from}
use Rattle.mm_text.specs.Compressed.{number_of_steps, number_of, within_limit}
use Rattle.mm_text.specs.NumberLaws.{OneSpelling, ReadBack}
use Rattle.mm_text.proofs.Digits.{begin, joined-nil, left-more}

-- the value of leading digits; the last digit is the first of the list
abbrev value : List ℕ → ℕ
value [] = 0
value (b ∷ bs) = 5 * value bs + (b - 84)

abbrev AreDigits : List ℕ → Type 0
AreDigits [] = Unit {0}
AreDigits (b ∷ bs) = (85 ≤ b) × (b ≤ 89) × AreDigits bs

-- letters after those that were read; the last letter that was read is the first of its list
abbrev onto : List ℕ → List ℕ → List ℕ
onto [] bs = bs
onto (r ∷ rs) bs = onto rs (r ∷ bs)

pick_digit : (t u z : Bool) (x y d : ℕ)
    → (if t then last_digit x else if u then digit y else if z then saves else no_letter) ≡ digit d
    → (u ≡ true) × (d ≡ y)
pick_digit true u z x y d h = absurd (cc)
pick_digit false true z x y d h = (refl, cc)
pick_digit false false true x y d h = absurd (cc)
pick_digit false false false x y d h = absurd (cc)

pick_last : (t u z : Bool) (x y d : ℕ)
    → (if t then last_digit x else if u then digit y else if z then saves else no_letter)
    ≡ last_digit d → (t ≡ true) × (d ≡ x)
pick_last true u z x y d h = (refl, cc)
pick_last false true z x y d h = absurd (cc)
pick_last false false true x y d h = absurd (cc)
pick_last false false false x y d h = absurd (cc)

in_range : (a b c : ℕ) → (nat_le a b && nat_le b c) ≡ true → (a ≤ b) × (b ≤ c)
in_range a b c h = (grind (arith, nat_tests), grind (arith, nat_tests))

digit-range : (b d : ℕ) → letter_of b ≡ digit d → (85 ≤ b) × (b ≤ 89) × (d ≡ b - 84)
digit-range b d h =
    let p =
    pick_digit (nat_le 65 b && nat_le b 84) (nat_le 85 b && nat_le b 89) (b == 90) (b - 64)
    (b - 84) d h in
    let r = in_range 85 b 89 p.0 in
    (r.0, r.1, p.1)

last-range : (b d : ℕ) → letter_of b ≡ last_digit d → (65 ≤ b) × (b ≤ 84) × (d ≡ b - 64)
last-range b d h =
    let p =
    pick_last (nat_le 65 b && nat_le b 84) (nat_le 85 b && nat_le b 89) (b == 90) (b - 64)
    (b - 84) d h in
    let r = in_range 65 b 84 p.0 in
    (r.0, r.1, p.1)

-- letters that spell a number are leading digits and a last digit
record Parts (xs : List ℕ) (n : ℕ) : Type 0 where
  leading : List ℕ
  final : ℕ
  spelled : xs ≡ onto leading (final ∷ [])
  are_digits : AreDigits leading
  low : 65 ≤ final
  high : final ≤ 84
  number : n ≡ 20 * value leading + (final - 64)

some_same : (m n : ℕ) → Some m ≡ Some n → n ≡ m
some_same m n h = cc

none_some : {X : Type 0} (n : ℕ) → None ≡ Some n → X
none_some n h = absurd (cc)

parts_letter : (b : ℕ) (bs rs : List ℕ) (n : ℕ) → AreDigits rs → (l : Letter) → letter_of b ≡ l
    → number_of_steps (joined_steps (steps_of_letter (digits (value rs)) l)
    (steps_from (before_next (digits (value rs)) l) bs)) ≡ Some n
    → (AreDigits (b ∷ rs) → number_of_steps (steps_from (digits (value (b ∷ rs))) bs) ≡ Some n
    → Parts (onto (b ∷ rs) bs) n) → Parts (onto rs (b ∷ bs)) n
parts_letter b [] rs n a (last_digit d) e h ih =
    let r = last-range b d e in
    record {
      leading = rs;
      final = b;
      spelled = refl;
      are_digits = a;
      low = r.0;
      high = r.1;
      number = some_same (20 * value rs + d) n h ∙ ap (λ m. 20 * value rs + m) r.2;
    }
parts_letter b (c ∷ cs) rs n a (last_digit d) e h ih =
    none_some n (sym (left-more (value rs) c cs (last_digit d) refl) ∙ h)
parts_letter b bs rs n a (digit d) e h ih =
    let r = digit-range b d e in
    ih (r.0, r.1, a)
    (ap (λ m. number_of_steps (steps_from (digits (5 * value rs + m)) bs)) (sym r.2)
    ∙ ap number_of_steps (sym (joined-nil (steps_from (digits (5 * value rs + d)) bs)))
    ∙ h)
parts_letter b bs rs n a saves e h ih = none_some n h
parts_letter b bs rs n a no_letter e h ih = none_some n h

parts : (bs rs : List ℕ) (n : ℕ) → AreDigits rs
    → number_of_steps (steps_from (digits (value rs)) bs) ≡ Some n → Parts (onto rs bs) n
parts [] rs n a h = none_some n h
parts (b ∷ bs) rs n a h = parts_letter b bs rs n a (letter_of b) refl h (parts bs (b ∷ rs) n)

same-digits : (qs ps : List ℕ) → AreDigits qs → AreDigits ps → value qs ≡ value ps → qs ≡ ps
same-digits [] [] a b h = refl
same-digits [] (c ∷ ps) a b h = absurd (omega (arith, b.0))
same-digits (c ∷ qs) [] a b h = absurd (omega (arith, a.0))
same-digits (c ∷ qs) (d ∷ ps) a b h =
    let e : c ≡ d = omega (arith, a.0, a.1, b.0, b.1) in
    let r : value qs ≡ value ps = omega (arith, a.0, a.1, b.0, b.1) in
    ap (λ x. x ∷ qs) e ∙ ap (λ xs. d ∷ xs) (same-digits qs ps a.2 b.2 r)

pub one_spelling : OneSpelling
one_spelling n xs ys h k =
    let p = parts xs [] n tt (sym (begin xs) ∙ h) in
    let q = parts ys [] n tt (sym (begin ys) ∙ k) in
    let e : p.final ≡ q.final = omega (arith, p.low, p.high, p.number, q.low, q.high, q.number) in
    let r : value p.leading ≡ value q.leading =
    omega (arith, p.low, p.high, p.number, q.low, q.high, q.number) in
    p.spelled
    ∙ ap (λ c. onto p.leading (c ∷ [])) e
    ∙ ap (λ ds. onto ds (q.final ∷ []))
    (same-digits p.leading q.leading p.are_digits q.are_digits r)
    ∙ sym q.spelled

small : (n : ℕ) → n ≤ 2 ^ 63 → within_limit (Some n) ≡ Some n
small n h = grind (arith, nat_tests)

pub read_back : ReadBack
read_back n old letters h s =
    ap (λ ls. within_limit (number_of ls)) (append_cancel_left old letters s.0 s.1)
    ∙ ap within_limit s.2
    ∙ small n h
