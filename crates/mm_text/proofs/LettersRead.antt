-- The letters of a number before other letters.
use Rattle.std.proofs.Common.{◌≡◌, ℕ, ◌+◌, ◌*◌, List, [], ◌∷◌, ◌++◌, refl, ap, ◌∙◌, sym}
use Rattle.std.specs.Prelude.{Option, Some, None}
use Rattle.mm_text.specs.Compressed.{Letter, last_digit, digit, saves, no_letter, letter_of, Before}
use Rattle.mm_text.specs.Compressed.{beginning, digits, a_number, a_save, value_before, before_next}
use Rattle.mm_text.specs.Compressed.{CompressedStep, numbered, save, save_after, steps_of_letter}
use Rattle.mm_text.specs.Compressed.{steps_at_end, joined_steps, steps_from, steps_of}
use Rattle.mm_text.specs.Compressed.{number_of_steps}
use Rattle.mm_text.specs.Letters.{NumberInFront, SaveInFront}

not_empty : (step : CompressedStep) (o : Option (List CompressedStep))
    → joined_steps (Some (step ∷ [])) o ≡ Some [] → ⊥
not_empty step None h = cc
not_empty step (Some steps) h = cc

pub behind_nothing : (o : Option (List CompressedStep)) (steps : List CompressedStep)
    → joined_steps (Some []) o ≡ Some steps → o ≡ Some steps
behind_nothing None steps h = absurd (cc)
behind_nothing (Some others) steps h = h

nothing_in_front : (o : Option (List CompressedStep)) → joined_steps (Some []) o ≡ o
nothing_in_front None = refl
nothing_in_front (Some steps) = refl

-- after digits there is a number
digits_go_on : (v : ℕ) (letters : List ℕ) → steps_from (digits v) letters ≡ Some [] → ⊥
digits_go_on v [] h = cc
digits_go_on v (b ∷ letters) h = go (letter_of b) h (λ w. digits_go_on w letters)
  where
    go : (l : Letter)
        → joined_steps (steps_of_letter (digits v) l)
        (steps_from (before_next (digits v) l) letters) ≡ Some []
        → ((w : ℕ) → steps_from (digits w) letters ≡ Some [] → ⊥) → ⊥
    go (last_digit d) is behind = not_empty (numbered (20 * v + d)) (steps_from a_number letters) is
    go (digit d) is behind =
        behind (5 * v + d) (behind_nothing (steps_from (digits (5 * v + d)) letters) [] is)
    go saves is behind = cc
    go no_letter is behind = cc

-- each letter after a number means something
pub ends_here : (letters : List ℕ) → steps_from a_number letters ≡ Some [] → letters ≡ []
ends_here [] h = refl
ends_here (b ∷ letters) h = absurd (go (letter_of b) h)
  where
    go : (l : Letter)
        → joined_steps (steps_of_letter a_number l) (steps_from (before_next a_number l) letters)
        ≡ Some [] → ⊥
    go (last_digit d) is = not_empty (numbered (20 * 0 + d)) (steps_from a_number letters) is
    go (digit d) is =
        digits_go_on (5 * 0 + d) letters
        (behind_nothing (steps_from (digits (5 * 0 + d)) letters) [] is)
    go saves is = not_empty save (steps_from a_save letters) is
    go no_letter is = cc

-- only a number
pub record Alone (m : ℕ) (o : Option (List CompressedStep)) (n : ℕ) : Type 0 where
  pub same : m ≡ n
  pub rest : o ≡ Some []

pub alone : (m : ℕ) (o : Option (List CompressedStep)) (n : ℕ)
    → joined_steps (Some (numbered m ∷ [])) o ≡ Some (numbered n ∷ []) → Alone m o n
alone m None n h = absurd (cc)
alone m (Some []) n h = record { same = cc; rest = refl }
alone m (Some (step ∷ steps)) n h = absurd (cc)

pub no_number_at_end : (before : Before) (n : ℕ) → steps_at_end before ≡ Some (numbered n ∷ []) → ⊥
no_number_at_end beginning n h = cc
no_number_at_end (digits v) n h = cc
no_number_at_end a_number n h = cc
no_number_at_end a_save n h = cc

pub no_save : (before : Before) (o : Option (List CompressedStep)) (n : ℕ)
    → joined_steps (save_after before) o ≡ Some (numbered n ∷ []) → ⊥
no_save beginning o n h = cc
no_save (digits v) o n h = cc
no_save a_number None n h = cc
no_save a_number (Some steps) n h = cc
no_save a_save o n h = cc

-- the letters of a number, after any step or the same digits, and before any letters
in_front : (letters more : List ℕ) (n : ℕ) (before other : Before)
    → value_before before ≡ value_before other → steps_from before letters ≡ Some (numbered n ∷ [])
    → steps_from other (letters ++ more)
    ≡ joined_steps (Some (numbered n ∷ [])) (steps_from a_number more)
in_front [] more n before other same h = absurd (no_number_at_end before n h)
in_front (b ∷ letters) more n before other same h =
    go (letter_of b) h (λ d is. in_front letters more n (digits (5 * value_before before + d))
    (digits (5 * value_before other + d)) (ap (λ (v : ℕ). 5 * v + d) same) is)
  where
    go : (l : Letter)
        → joined_steps (steps_of_letter before l) (steps_from (before_next before l) letters)
        ≡ Some (numbered n ∷ [])
        → ((d : ℕ)
        → steps_from (digits (5 * value_before before + d)) letters ≡ Some (numbered n ∷ [])
        → steps_from (digits (5 * value_before other + d)) (letters ++ more)
        ≡ joined_steps (Some (numbered n ∷ [])) (steps_from a_number more))
        → joined_steps (steps_of_letter other l)
        (steps_from (before_next other l) (letters ++ more))
        ≡ joined_steps (Some (numbered n ∷ [])) (steps_from a_number more)
    go (last_digit d) is behind =
        let a : Alone (20 * value_before before + d) (steps_from a_number letters) n =
        alone (20 * value_before before + d) (steps_from a_number letters) n is in
        let none : letters ≡ [] = ends_here letters a.rest in
        ap (λ (v : ℕ). joined_steps (Some (numbered (20 * v + d) ∷ []))
        (steps_from a_number (letters ++ more))) (sym same)
        ∙ ap (λ (m : ℕ).
        joined_steps (Some (numbered m ∷ [])) (steps_from a_number (letters ++ more)))
        a.same
        ∙ ap (λ (ls : List ℕ).
        joined_steps (Some (numbered n ∷ [])) (steps_from a_number (ls ++ more))) none
    go (digit d) is behind =
        ap (joined_steps (Some [])) (behind d (behind_nothing
        (steps_from (digits (5 * value_before before + d)) letters) (numbered n ∷ []) is))
        ∙ nothing_in_front (joined_steps (Some (numbered n ∷ [])) (steps_from a_number more))
    go saves is behind = absurd (no_save before (steps_from a_save letters) n is)
    go no_letter is behind = absurd (cc)

pub steps_of-number : (o : Option (List CompressedStep)) (n : ℕ) → number_of_steps o ≡ Some n
    → o ≡ Some (numbered n ∷ [])
steps_of-number None n h = absurd (cc)
steps_of-number (Some []) n h = absurd (cc)
steps_of-number (Some (save ∷ steps)) n h = absurd (cc)
steps_of-number (Some (numbered m ∷ [])) n h =
    let same : m ≡ n = cc in
    ap (λ (k : ℕ). Some (numbered k ∷ [])) same
steps_of-number (Some (numbered m ∷ (step ∷ steps))) n h = absurd (cc)

pub number_in_front : NumberInFront
number_in_front letters more n h =
    let is : steps_from beginning letters ≡ Some (numbered n ∷ []) =
    steps_of-number (steps_of letters) n h in (
      in_front letters more n beginning beginning refl is,
      in_front letters more n beginning a_number refl is,
      in_front letters more n beginning a_save refl is,
    )

pub save_in_front : SaveInFront
save_in_front more = refl
