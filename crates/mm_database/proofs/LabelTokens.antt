-- The tokens of labels and of letters. Both have only letters, digits, `-`, `_` and `.`.
use Rattle.std.proofs.Common.{◌≡◌, ◌≢◌, ℕ, Bool, true, false, List, [], ◌∷◌, refl, ap}
use Rattle.std.proofs.Common.{arith}
use Rattle.std.specs.Prelude.{◌-◌, ◌&&◌, ◌==◌, nat_le, not, if◌then◌else◌, codes, bytes_eq, Option}
use Rattle.std.specs.Prelude.{Some, None}
use Rattle.std.specs.List.{list_all}
use Rattle.std.proofs.lemmas.Bool.{false≢true}
use Rattle.mm_text.specs.Bytes.{Token, is_printable, class_of, is_printable_class}
use Rattle.mm_text.specs.Compressed.{Letter, last_digit, digit, saves, no_letter, letter_of, Before}
use Rattle.mm_text.specs.Compressed.{beginning, before_next, CompressedStep, steps_of_letter}
use Rattle.mm_text.specs.Compressed.{joined_steps, steps_from, steps_of}
use Rattle.mm_text.specs.Labels.{is_label_byte, is_label}
use Rattle.mm_text.specs.PlainTokens.{is_plain_token}
use Rattle.mm_text.specs.Statements.{ends_statement}
use Rattle.mm_text.proofs.Truths.{both_true}
use Rattle.mm_database.specs.Forms.{has_dollar}
use Rattle.mm_database.specs.CleanTokens.{are_clean}

-- what is known about the tokens of a label
pub record LabelFacts (t : Token) : Type 0 where
  pub plain : is_plain_token t ≡ true
  pub clean : has_dollar t ≡ false
  pub no_end : ends_statement t ≡ false
  pub no_bracket : bytes_eq t (codes "(") ≡ false
  pub no_close : bytes_eq t (codes ")") ≡ false

and_true : (a b : Bool) → a ≡ true → b ≡ true → (a && b) ≡ true
and_true a b h k = rw (h, k) refl

-- a byte of a label is printable, and it is none of the bytes of Metamath's own tokens
record ByteFacts (b : ℕ) : Type 0 where
  prints : is_printable_class (class_of b) ≡ true
  no_dollar : (b == 36) ≡ false
  no_open : (b == 40) ≡ false
  no_close : (b == 41) ≡ false

label_byte_prints : (b : ℕ) → is_label_byte b ≡ true → is_printable b ≡ true
label_byte_prints b h = grind (arith, h)

printing : (b : ℕ) → is_printable b ≡ true → is_printable_class (class_of b) ≡ true
printing b h = grind (arith, h)

label_byte_no : (b : ℕ) → is_label_byte b ≡ true
    → ((b == 36) ≡ false) × ((b == 40) ≡ false) × ((b == 41) ≡ false)
label_byte_no b h = (grind (arith, h), grind (arith, h), grind (arith, h))

byte_facts : (b : ℕ) → is_label_byte b ≡ true → ByteFacts b
byte_facts b h = record {
  prints = printing b (label_byte_prints b h);
  no_dollar = (label_byte_no b h).0;
  no_open = (label_byte_no b h).1;
  no_close = (label_byte_no b h).2;
}

bytes_print : (bs : Token) → list_all is_label_byte bs ≡ true
    → list_all (λ c. is_printable_class (class_of c)) bs ≡ true
bytes_print [] h = refl
bytes_print (b ∷ bs) h =
    let both : (is_label_byte b ≡ true) × (list_all is_label_byte bs ≡ true) =
    both_true (is_label_byte b) (list_all is_label_byte bs) h in
    and_true (is_printable_class (class_of b)) (list_all (λ c. is_printable_class (class_of c)) bs)
    (byte_facts b both.0).prints (bytes_print bs both.1)

no_dollars : (bs : Token) → list_all is_label_byte bs ≡ true → has_dollar bs ≡ false
no_dollars [] h = refl
no_dollars (b ∷ bs) h =
    let both : (is_label_byte b ≡ true) × (list_all is_label_byte bs ≡ true) =
    both_true (is_label_byte b) (list_all is_label_byte bs) h in
    let here : (b == 36) ≡ false = (byte_facts b both.0).no_dollar in
    rw here (no_dollars bs both.1)

no_first : (b c : ℕ) (bs cs : Token) → (b == c) ≡ false → bytes_eq (b ∷ bs) (c ∷ cs) ≡ false
no_first b c bs cs h = rw h refl

no_comment : (b : Token) (bs : Token) → bytes_eq b bs ≡ false → not (bytes_eq b bs) ≡ true
no_comment b bs h = rw h refl

pub label_facts : (t : Token) → is_label t ≡ true → LabelFacts t
label_facts [] h = absurd (false≢true h)
label_facts (b ∷ bs) h =
    let first : ByteFacts b =
    byte_facts b (both_true (is_label_byte b) (list_all is_label_byte bs) h).0 in
    record {
      plain =
          and_true (list_all (λ c. is_printable_class (class_of c)) (b ∷ bs)) _
          (bytes_print (b ∷ bs) h)
          (and_true _ _
          (no_comment (b ∷ bs) (codes "$(") (no_first b 36 bs (40 ∷ []) first.no_dollar))
          (no_comment (b ∷ bs) (codes "$)") (no_first b 36 bs (41 ∷ []) first.no_dollar)));
      clean = no_dollars (b ∷ bs) h;
      no_end = no_first b 36 bs (46 ∷ []) first.no_dollar;
      no_bracket = no_first b 40 bs [] first.no_open;
      no_close = no_first b 41 bs [] first.no_close;
    }

-- well spelled labels are plain and clean tokens

pub labels_clean : (ts : List Token) → list_all is_label ts ≡ true → are_clean ts ≡ true
labels_clean [] h = refl
labels_clean (t ∷ ts) h =
    let both : (is_label t ≡ true) × (list_all is_label ts ≡ true) =
    both_true (is_label t) (list_all is_label ts) h in
    let here : has_dollar t ≡ false = (label_facts t both.0).clean in
    rw here (labels_clean ts both.1)

pub labels_plain : (ts : List Token) → list_all is_label ts ≡ true
    → list_all is_plain_token ts ≡ true
labels_plain [] h = refl
labels_plain (t ∷ ts) h =
    let both : (is_label t ≡ true) × (list_all is_label ts ≡ true) =
    both_true (is_label t) (list_all is_label ts) h in
    and_true (is_plain_token t) (list_all is_plain_token ts) (label_facts t both.0).plain
    (labels_plain ts both.1)

-- letters that mean steps are spelled as labels are

first_letter : (b : ℕ) → (nat_le 65 b && nat_le b 84) ≡ true → is_label_byte b ≡ true
first_letter b h = grind (arith, h)

middle_letter : (b : ℕ) → (nat_le 85 b && nat_le b 89) ≡ true → is_label_byte b ≡ true
middle_letter b h = grind (arith, h)

last_letter : (b : ℕ) → (b == 90) ≡ true → is_label_byte b ≡ true
last_letter b h = grind (arith, h)

letter_byte : (b : ℕ) → letter_of b ≢ no_letter → is_label_byte b ≡ true
letter_byte b h =
    go (nat_le 65 b && nat_le b 84) (nat_le 85 b && nat_le b 89) (b == 90) refl refl refl h
  where
    go : (p q r : Bool) → (nat_le 65 b && nat_le b 84) ≡ p → (nat_le 85 b && nat_le b 89) ≡ q
        → (b == 90) ≡ r
        → (if p then last_digit (b - 64) else
        if q then digit (b - 84) else if r then saves else no_letter) ≢ no_letter
        → is_label_byte b ≡ true
    go true q r hp hq hr some = first_letter b hp
    go false true r hp hq hr some = middle_letter b hq
    go false false true hp hq hr some = last_letter b hr
    go false false false hp hq hr some = absurd (some refl)

steps_behind : (first rest : Option (List CompressedStep)) (steps : List CompressedStep)
    → joined_steps first rest ≡ Some steps
    → (first ≢ None) × ((more : List CompressedStep) × (rest ≡ Some more))
steps_behind None rest steps h = absurd (let z : ⊥ = cc in z)
steps_behind (Some first) None steps h = absurd (let z : ⊥ = cc in z)
steps_behind (Some first) (Some more) steps h = (λ n. cc, (more, refl))

a_letter : (before : Before) (l : Letter) → steps_of_letter before l ≢ None → l ≢ no_letter
a_letter before l some is = some (ap (steps_of_letter before) is)

letters_spelt : (before : Before) (letters : List ℕ) (steps : List CompressedStep)
    → steps_from before letters ≡ Some steps → list_all is_label_byte letters ≡ true
letters_spelt before [] steps h = refl
letters_spelt before (b ∷ letters) steps h =
    let parts : (steps_of_letter before (letter_of b) ≢ None) ×
    ((more : List CompressedStep)
    × (steps_from (before_next before (letter_of b)) letters ≡ Some more)) =
    steps_behind (steps_of_letter before (letter_of b))
    (steps_from (before_next before (letter_of b)) letters) steps h in
    and_true (is_label_byte b) (list_all is_label_byte letters)
    (letter_byte b (a_letter before (letter_of b) parts.0))
    (letters_spelt (before_next before (letter_of b)) letters parts.1.0 parts.1.1)

pub letters_are_label : (letters : Token) (steps : List CompressedStep)
    → steps_of letters ≡ Some steps → is_label letters ≡ true
letters_are_label [] steps h = absurd (let z : ⊥ = cc in z)
letters_are_label (b ∷ letters) steps h = letters_spelt beginning (b ∷ letters) steps h
