-- Numbers read from the left, and written from the right.
use Rattle.std.proofs.Common.{◌≡◌, ℕ, ◌+◌, ◌*◌, ◌^◌, ◌<◌, ◌≢◌, Bool, true, false, List, [], ◌∷◌}
use Rattle.std.proofs.Common.{◌++◌, length, refl, ap, sym, ◌∙◌, get_or, drop, suc, drop-cons}
use Rattle.std.proofs.Common.{add-one, arith, if◌then◌else◌}
use Rattle.std.specs.Prelude.{Option, Some, None, Result, Ok, Err, is_ok, IfOk, option_map}
use Rattle.std.proofs.lemmas.Bool.Decides.{nat_tests}
use Rattle.mm_text.specs.Compressed.{Letter, last_digit, digit, saves, no_letter, letter_of, Before}
use Rattle.mm_text.specs.Compressed.{beginning, digits, a_number, a_save, value_before, before_next}
use Rattle.mm_text.specs.Compressed.{CompressedStep, numbered, save, save_after, steps_of_letter}
use Rattle.mm_text.specs.Compressed.{joined_steps, steps_from, number_of_steps, number_of}
use Rattle.mm_text.specs.Compressed.{within_limit}
use Rattle.mm_text.specs.Numbers.{Spells}
use Rattle.mm_text.specs.DigitsRead.{leading_value, last_value, head_letter, number_left}

-- no letters so far have the same effect as digits with the value 0
begin_letter : (l : Letter) (bs : List ℕ)
    → joined_steps (steps_of_letter beginning l) (steps_from (before_next beginning l) bs)
    ≡ joined_steps (steps_of_letter (digits 0) l) (steps_from (before_next (digits 0) l) bs)
begin_letter (last_digit d) bs = refl
begin_letter (digit d) bs = refl
begin_letter saves bs = refl
begin_letter no_letter bs = refl

pub begin : (bs : List ℕ) → number_of bs ≡ number_of_steps (steps_from (digits 0) bs)
begin [] = refl
begin (b ∷ bs) = ap number_of_steps (begin_letter (letter_of b) bs)

pub joined-nil : (s : Option (List CompressedStep)) → joined_steps (Some []) s ≡ s
joined-nil None = refl
joined-nil (Some rest) = refl

-- a digit before letters
pub steps-digit : (v b d : ℕ) (bs : List ℕ) → letter_of b ≡ digit d
    → steps_from (digits v) (b ∷ bs) ≡ steps_from (digits (5 * v + d)) bs
steps-digit v b d bs h = rw h (joined-nil (steps_from (digits (5 * v + d)) bs))

-- a number with more letters after it is not a single number
abbrev goes_on : Option (List CompressedStep) → Bool
goes_on None = true
goes_on (Some []) = false
goes_on (Some (s ∷ ss)) = true

goes_on-joined : (s : CompressedStep) (rest : Option (List CompressedStep))
    → goes_on (joined_steps (Some (s ∷ [])) rest) ≡ true
goes_on-joined s None = refl
goes_on-joined s (Some rest) = refl

goes_on-save : (before : Before) (rest : Option (List CompressedStep))
    → goes_on (joined_steps (save_after before) rest) ≡ true
goes_on-save beginning rest = refl
goes_on-save (digits v) rest = refl
goes_on-save a_number rest = goes_on-joined save rest
goes_on-save a_save rest = refl

goes_on-letter : (before : Before) (l : Letter) (bs : List ℕ)
    → ((v : ℕ) → goes_on (steps_from (digits v) bs) ≡ true)
    → goes_on (joined_steps (steps_of_letter before l) (steps_from (before_next before l) bs))
    ≡ true
goes_on-letter before (last_digit d) bs ih =
    goes_on-joined (numbered (20 * value_before before + d)) (steps_from a_number bs)
goes_on-letter before (digit d) bs ih =
    ap goes_on (joined-nil (steps_from (digits (5 * value_before before + d)) bs))
    ∙ ih (5 * value_before before + d)
goes_on-letter before saves bs ih = goes_on-save before (steps_from a_save bs)
goes_on-letter before no_letter bs ih = refl

goes_on-digits : (bs : List ℕ) (v : ℕ) → goes_on (steps_from (digits v) bs) ≡ true
goes_on-digits [] v = refl
goes_on-digits (b ∷ bs) v = goes_on-letter (digits v) (letter_of b) bs (goes_on-digits bs)

no_more : (n : ℕ) (s : Option (List CompressedStep)) → goes_on s ≡ true
    → number_of_steps (joined_steps (Some (numbered n ∷ [])) s) ≡ None
no_more n None h = refl
no_more n (Some []) h = absurd (cc)
no_more n (Some (s ∷ ss)) h = refl

-- one letter after digits
left-one : (v : ℕ) (l : Letter) → leading_value l ≡ None
    → number_of_steps
    (joined_steps (steps_of_letter (digits v) l) (steps_from (before_next (digits v) l) []))
    ≡ option_map (λ d. 20 * v + d) (last_value l)
left-one v (last_digit d) h = refl
left-one v (digit d) h = absurd (cc)
left-one v saves h = refl
left-one v no_letter h = refl

pub number-one : (v b : ℕ) → leading_value (letter_of b) ≡ None
    → number_of_steps (steps_from (digits v) (b ∷ []))
    ≡ option_map (λ d. 20 * v + d) (last_value (letter_of b))
number-one v b h = left-one v (letter_of b) h

-- several letters; the first is not a leading digit
pub left-more : (v c : ℕ) (cs : List ℕ) (l : Letter) → leading_value l ≡ None
    → number_of_steps (joined_steps (steps_of_letter (digits v) l)
    (steps_from (before_next (digits v) l) (c ∷ cs))) ≡ None
left-more v c cs (last_digit d) h =
    no_more (20 * v + d) (steps_from a_number (c ∷ cs))
    (goes_on-letter a_number (letter_of c) cs (goes_on-digits cs))
left-more v c cs (digit d) h = absurd (cc)
left-more v c cs saves h = refl
left-more v c cs no_letter h = refl

pub number-more : (v b c : ℕ) (cs : List ℕ) → leading_value (letter_of b) ≡ None
    → number_of_steps (steps_from (digits v) (b ∷ (c ∷ cs))) ≡ None
number-more v b c cs h = left-more v c cs (letter_of b) h

pub number-many : (v : ℕ) (bs : List ℕ) → length bs ≢ 1 → leading_value (head_letter bs) ≡ None
    → number_left v bs ≡ None
number-many v [] h k = refl
number-many v (b ∷ []) h k = absurd (h (omega arith))
number-many v (b ∷ (c ∷ cs)) h k = ap within_limit (number-more v b c cs k)

-- a number is past the limit if its leading digits are
too_large : (n : ℕ) → 2 ^ 63 < n → within_limit (Some n) ≡ None
too_large n h = grind (arith, nat_tests)

large-letter : (v : ℕ) (l : Letter) (bs : List ℕ) → 2 ^ 63 < 20 * v
    → ((w : ℕ) → 2 ^ 63 < 20 * w → number_left w bs ≡ None)
    → within_limit (number_of_steps (joined_steps (steps_of_letter (digits v) l)
    (steps_from (before_next (digits v) l) bs))) ≡ None
large-letter v (last_digit d) [] h ih = too_large (20 * v + d) (omega arith)
large-letter v (last_digit d) (c ∷ cs) h ih = ap within_limit (left-more v c cs (last_digit d) refl)
large-letter v (digit d) bs h ih =
    ap (λ s. within_limit (number_of_steps s)) (joined-nil (steps_from (digits (5 * v + d)) bs))
    ∙ ih (5 * v + d) (omega arith)
large-letter v saves bs h ih = refl
large-letter v no_letter bs h ih = refl

pub number-large : (bs : List ℕ) (v : ℕ) → 2 ^ 63 < 20 * v → number_left v bs ≡ None
number-large [] v h = refl
number-large (b ∷ bs) v h = large-letter v (letter_of b) bs h (number-large bs)

digit_of : (l : Letter) (d : ℕ) → leading_value l ≡ Some d → l ≡ digit d
digit_of (last_digit e) d h = absurd (cc)
digit_of (digit e) d h = cc
digit_of saves d h = absurd (cc)
digit_of no_letter d h = absurd (cc)

pub digit-pass : (letters : List ℕ) (at v d : ℕ) → at < length letters
    → leading_value (letter_of (get_or letters at 0)) ≡ Some d
    → number_left v (drop at letters) ≡ number_left (5 * v + d) (drop (at + 1) letters)
digit-pass letters at v d within h =
    ap (number_left v) (drop-cons letters at 0 within)
    ∙ ap (λ s. within_limit (number_of_steps s)) (steps-digit v (get_or letters at 0) d
    (drop (suc at) letters) (digit_of (letter_of (get_or letters at 0)) d h))
    ∙ ap (λ m. number_left (5 * v + d) (drop m letters)) (sym (add-one at))

-- letters that were appended, unless memory ran out
pub spelled : {E : Type 0} (r : Result (Unit {0}) E) (n : ℕ) (old new letters : List ℕ)
    → new ≡ (if is_ok r then old ++ letters else old) → number_of letters ≡ Some n
    → IfOk r (λ x. Spells n old new)
spelled (Ok x) n old new letters h k = (letters, h, k)
spelled (Err e) n old new letters h k = tt
