-- Laws on the letters of compressed proofs.
use Rattle.std.proofs.Common.{◌≡◌, ℕ, zero, suc, ◌+◌, ◌-◌, ◌*◌, ◌<◌, ◌≤◌, Bool, true, false, List}
use Rattle.std.proofs.Common.{[], ◌∷◌, ◌++◌, length, get_or, Option, Some, None, refl, ap, ◌∙◌, sym}
use Rattle.std.proofs.Common.{arith, append_assoc}
use Rattle.std.specs.Prelude.{nat_lt, slice_get, if◌then◌else◌, option_and_then}
use Rattle.mm_text.specs.Compressed.{Letter, last_digit, digit, saves, no_letter, letter_of, Before}
use Rattle.mm_text.specs.Compressed.{beginning, digits, a_number, a_save, value_before, before_next}
use Rattle.mm_text.specs.Compressed.{CompressedStep, numbered, save, steps_of_letter, joined_steps}
use Rattle.mm_text.specs.Compressed.{steps_from}
use Rattle.mm_database.specs.Steps.{Step, cites, saves as saves_last, repeats}
use Rattle.mm_database.specs.ProofText.{step_of_number, with_step, steps_of_numbers}
use Rattle.mm_frame.specs.NumberedSteps.{Citation}
use Rattle.std.specs.Prelude.{map}
use Rattle.std.proofs.lemmas.List.{length-map}
use Rattle.mm_database.specs.Frames.{statement_of}
use Rattle.mm_frame.specs.NumberedSteps.{gives}
use Rattle.mm_frame.specs.Numbered.{NumberedHypothesis}
use Rattle.mm_verify.specs.declared.machine.Citation as code
use Rattle.mm_verify.specs.Running.{citation_of}
use Rattle.mm_verify.specs.Reading.{left_meanings, behind_items, table_of}

-- repeating a saved step, under a test
abbrev pub repeat_if : Bool → ℕ → Option (Step Citation)
repeat_if test n = if test then Some (repeats n) else None

-- a number past the table and the saved entries stands for nothing
pub step_of_number-past : (table : List Citation) (saved n : ℕ) → length table + saved ≤ n
    → step_of_number table saved n ≡ None
step_of_number-past [] saved n le = go (nat_lt n saved) refl
  where
    go : (b : Bool) → nat_lt n saved ≡ b → repeat_if b n ≡ None
    go true e = absurd (below n saved le e)
      where
        below : (n saved : ℕ) → 0 + saved ≤ n → nat_lt n saved ≡ true → ⊥
        below n saved le e = grind (arith, le, e)
    go false e = refl
step_of_number-past (step ∷ steps) saved zero le = absurd (none (length steps) saved le)
  where
    none : (m saved : ℕ) → suc m + saved ≤ 0 → ⊥
    none m saved le = omega (arith, le)
step_of_number-past (step ∷ steps) saved (suc n) le =
    step_of_number-past steps saved n (omega (arith, le))

-- a last digit completes a number
abbrev read_on : List Citation → ℕ → Option (List CompressedStep) → Option (List (Step Citation))
read_on table saved steps = option_and_then (steps_of_numbers table saved) steps

number-read : (table : List Citation) (saved n : ℕ) (steps : Option (List CompressedStep))
    → read_on table saved (joined_steps (Some (numbered n ∷ [])) steps)
    ≡ with_step (step_of_number table saved (n - 1)) (read_on table saved steps)
number-read table saved n (Some steps) = refl
number-read table saved n None = sym (none (step_of_number table saved (n - 1)))
  where
    none : (o : Option (Step Citation)) → with_step o None ≡ None
    none None = refl
    none (Some s) = refl

digits-read : (table : List Citation) (saved : ℕ) (steps : Option (List CompressedStep))
    → read_on table saved (joined_steps (Some []) steps) ≡ read_on table saved steps
digits-read table saved None = refl
digits-read table saved (Some steps) = refl

save-read : (table : List Citation) (saved : ℕ) (steps : Option (List CompressedStep))
    → read_on table saved (joined_steps (Some (save ∷ [])) steps)
    ≡ with_step (Some saves_last) (read_on table (saved + 1) steps)
save-read table saved None = refl
save-read table saved (Some steps) = refl

nothing-read : (table : List Citation) (saved : ℕ) (steps : Option (List CompressedStep))
    → read_on table saved (joined_steps None steps) ≡ None
nothing-read table saved steps = refl

steps-letter : (before : Before) (b : ℕ) (letters : List ℕ) (l : Letter) → letter_of b ≡ l
    → steps_from before (b ∷ letters)
    ≡ joined_steps (steps_of_letter before l) (steps_from (before_next before l) letters)
steps-letter before b letters l is =
    ap (λ (k : Letter).
    joined_steps (steps_of_letter before k) (steps_from (before_next before k) letters)) is

pub last-read : (table : List Citation) (saved d b : ℕ) (before : Before) (letters : List ℕ)
    → letter_of b ≡ last_digit d
    → left_meanings table saved before (b ∷ letters)
    ≡ with_step (step_of_number table saved (20 * value_before before + d - 1))
    (left_meanings table saved a_number letters)
last-read table saved d b before letters is =
    ap (λ (s : Option (List CompressedStep)). read_on table saved s)
    (steps-letter before b letters (last_digit d) is)
    ∙ number-read table saved (20 * value_before before + d) (steps_from a_number letters)

pub digit-read : (table : List Citation) (saved d b : ℕ) (before : Before) (letters : List ℕ)
    → letter_of b ≡ digit d
    → left_meanings table saved before (b ∷ letters)
    ≡ left_meanings table saved (digits (5 * value_before before + d)) letters
digit-read table saved d b before letters is =
    ap (λ (s : Option (List CompressedStep)). read_on table saved s)
    (steps-letter before b letters (digit d) is)
    ∙ digits-read table saved (steps_from (digits (5 * value_before before + d)) letters)

pub saves-read : (table : List Citation) (saved b : ℕ) (letters : List ℕ) → letter_of b ≡ saves
    → left_meanings table saved a_number (b ∷ letters)
    ≡ with_step (Some saves_last) (left_meanings table (saved + 1) a_save letters)
saves-read table saved b letters is =
    ap (λ (s : Option (List CompressedStep)). read_on table saved s)
    (steps-letter a_number b letters saves is)
    ∙ save-read table saved (steps_from a_save letters)

-- a `Z` after anything else, or a byte that is no letter
pub no-save-read : (table : List Citation) (saved b : ℕ) (before : Before) (letters : List ℕ)
    → letter_of b ≡ saves → (before ≡ a_number → ⊥)
    → left_meanings table saved before (b ∷ letters) ≡ None
no-save-read table saved b beginning letters is no_number =
    ap (λ (s : Option (List CompressedStep)). read_on table saved s)
    (steps-letter beginning b letters saves is)
no-save-read table saved b (digits n) letters is no_number =
    ap (λ (s : Option (List CompressedStep)). read_on table saved s)
    (steps-letter (digits n) b letters saves is)
no-save-read table saved b a_number letters is no_number = absurd (no_number refl)
no-save-read table saved b a_save letters is no_number =
    ap (λ (s : Option (List CompressedStep)). read_on table saved s)
    (steps-letter a_save b letters saves is)

pub other-read : (table : List Citation) (saved b : ℕ) (before : Before) (letters : List ℕ)
    → letter_of b ≡ no_letter → left_meanings table saved before (b ∷ letters) ≡ None
other-read table saved b before letters is =
    ap (λ (s : Option (List CompressedStep)). read_on table saved s)
    (steps-letter before b letters no_letter is)

-- one more step before what is left
pub step-behind : (done : List (Step Citation)) (step : Step Citation)
    (left : Option (List (Step Citation)))
    → behind_items done (with_step (Some step) left) ≡ behind_items (done ++ step ∷ []) left
step-behind done step None = refl
step-behind done step (Some steps) =
    ap (λ (s : List (Step Citation)). Some s) (sym (append_assoc done (step ∷ []) steps))

-- a whole number and a `Z` are steps after what is read
pub number-on : (done : List (Step Citation)) (table : List Citation) (saved d b : ℕ)
    (before : Before) (others : List ℕ) (step : Step Citation) → letter_of b ≡ last_digit d
    → step_of_number table saved (20 * value_before before + d - 1) ≡ Some step
    → behind_items done (left_meanings table saved before (b ∷ others))
    ≡ behind_items (done ++ step ∷ []) (left_meanings table saved a_number others)
number-on done table saved d b before others step is found =
    ap (behind_items done) (last-read table saved d b before others is
    ∙ ap (λ (o : Option (Step Citation)).
    with_step o (left_meanings table saved a_number others)) found)
    ∙ step-behind done step (left_meanings table saved a_number others)

pub save-on : (done : List (Step Citation)) (table : List Citation) (saved b : ℕ) (before : Before)
    (others : List ℕ) → before ≡ a_number → letter_of b ≡ saves
    → behind_items done (left_meanings table saved before (b ∷ others))
    ≡ behind_items (done ++ saves_last ∷ []) (left_meanings table (saved + 1) a_save others)
save-on done table saved b before others number is =
    ap (λ (x : Before). behind_items done (left_meanings table saved x (b ∷ others))) number
    ∙ ap (behind_items done) (saves-read table saved b others is)
    ∙ step-behind done saves_last (left_meanings table (saved + 1) a_save others)

pub step_of_number-in : (table : List Citation) (saved n : ℕ) (s : Citation) → n < length table
    → s ≡ get_or table n s → step_of_number table saved n ≡ Some (cites s)
step_of_number-in [] saved n s lt is = absurd (none n lt)
  where
    none : (n : ℕ) → n < 0 → ⊥
    none n lt = omega (arith, lt)
step_of_number-in (step ∷ steps) saved zero s lt is = ap (λ (t : Citation). Some (cites t)) (sym is)
step_of_number-in (step ∷ steps) saved (suc n) s lt is =
    step_of_number-in steps saved n s (omega (arith, lt)) is

pub step_of_number-behind : (table : List Citation) (saved n m : ℕ) → length table ≤ n
    → m ≡ n - length table → step_of_number table saved n ≡ repeat_if (nat_lt m saved) m
step_of_number-behind [] saved n m le is =
    let same : n ≡ m = omega (arith, is) in
    ap (λ (k : ℕ). repeat_if (nat_lt k saved) k) same
step_of_number-behind (step ∷ steps) saved zero m le is = absurd (none (length steps) le)
  where
    none : (k : ℕ) → suc k ≤ 0 → ⊥
    none k le = omega (arith, le)
step_of_number-behind (step ∷ steps) saved (suc n) m le is =
    step_of_number-behind steps saved n m (omega (arith, le)) (omega (arith, is))

-- digits whose value is past the table and the saved entries make no number of a step
pub letters-past : (table : List Citation) (saved v : ℕ) (letters : List ℕ)
    → length table + saved ≤ v → left_meanings table saved (digits v) letters ≡ None
letters-past table saved v [] le = refl
letters-past table saved v (b ∷ letters) le =
    go (letter_of b) refl (λ w more. letters-past table saved w letters more)
  where
    number : (d : ℕ) → step_of_number table saved (20 * v + d - 1) ≡ None
    number d = step_of_number-past table saved (20 * v + d - 1) (omega (arith, le))

    go : (l : Letter) → letter_of b ≡ l
        → ((w : ℕ) → length table + saved ≤ w → left_meanings table saved (digits w) letters ≡ None)
        → left_meanings table saved (digits v) (b ∷ letters) ≡ None
    go (last_digit d) is rest = last-read table saved d b (digits v) letters is
        ∙ ap (λ (o : Option (Step Citation)).
        with_step o (left_meanings table saved a_number letters)) (number d)
    go (digit d) is rest =
        digit-read table saved d b (digits v) letters is ∙ rest (5 * v + d) (omega (arith, le))
    go saves is rest = no-save-read table saved b (digits v) letters is (λ e. absurd (cc))
    go no_letter is rest = other-read table saved b (digits v) letters is

-- how many numbers the table has, and what each of them cites
pub table-length : (hyps : List NumberedHypothesis) (listed : List code.Citation)
    → length (table_of hyps listed) ≡ length hyps + length listed
table-length [] listed = omega (arith, length-map listed citation_of)
table-length (h ∷ hyps) listed = omega (arith, table-length hyps listed)

pub step_of_number-given : (hyps : List NumberedHypothesis) (listed : List code.Citation)
    (saved n : ℕ) (h : NumberedHypothesis) → slice_get hyps n ≡ Some h
    → Some (cites (gives (statement_of h))) ≡ step_of_number (table_of hyps listed) saved n
step_of_number-given [] listed saved n h is = absurd (cc)
step_of_number-given (x ∷ hyps) listed saved zero h is =
    let same : h ≡ x = cc in
    ap (λ (k : NumberedHypothesis). Some (cites (gives (statement_of k)))) same
step_of_number-given (x ∷ hyps) listed saved (suc n) h is =
    step_of_number-given hyps listed saved n h is

-- below their number there is one
pub some-given : (hyps : List NumberedHypothesis) (n : ℕ) → n < length hyps
    → slice_get hyps n ≡ None → ⊥
some-given [] n lt none = omega (arith, lt)
some-given (x ∷ hyps) zero lt none = cc
some-given (x ∷ hyps) (suc n) lt none = some-given hyps n (omega (arith, lt)) none

pub step_of_number-listed : (hyps : List NumberedHypothesis) (listed : List code.Citation)
    (saved n m : ℕ) → length hyps ≤ n → m ≡ n - length hyps
    → step_of_number (map citation_of listed) saved m
    ≡ step_of_number (table_of hyps listed) saved n
step_of_number-listed [] listed saved n m le is =
    ap (λ (k : ℕ). step_of_number (map citation_of listed) saved k) (omega (arith, is))
step_of_number-listed (x ∷ hyps) listed saved zero m le is = absurd (none (length hyps) le)
  where
    none : (k : ℕ) → suc k ≤ 0 → ⊥
    none k le = omega (arith, le)
step_of_number-listed (x ∷ hyps) listed saved (suc n) m le is =
    step_of_number-listed hyps listed saved n m (omega (arith, le)) (omega (arith, is))
