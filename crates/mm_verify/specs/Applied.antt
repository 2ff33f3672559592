-- What a step does and returns.
use Rattle.std.specs.Prelude.{◌≡◌, ℕ, Bool, true, false, ◌&&◌, nat_eq, List, Option, MatchOption}
use Rattle.mm_frame.specs.Numbered.{NumberedFrame}
use Rattle.mm_database.specs.Stack.{bindings_of, text_in}
use Rattle.mm_database.specs.Proofs.{keeps_apart}
use Rattle.mm_frame.specs.NumberedSteps.{NumberedPlace, all_agree, numbers_apart}

-- the texts that the entries give to the variables of a frame
abbrev pub bindings_in : NumberedFrame → List (List ℕ) → ℕ → List ℕ
bindings_in f entries = text_in nat_eq (bindings_of f.hypotheses entries)

-- the entries are what the frame asks for
abbrev pub is_met : NumberedPlace → NumberedFrame → List (List ℕ) → Bool
is_met p f entries = all_agree (bindings_in f entries) f.hypotheses entries
    && keeps_apart (numbers_apart p) f (bindings_in f entries)

-- if there is a next state, it is reached and the result is true; else nothing changes and it is
-- false
abbrev pub AgreesWithStep : {S : Type 0} → Option S → S → S → Bool → Type 0
AgreesWithStep next old new done =
    MatchOption next ((done ≡ false) × (new ≡ old)) (λ s. (done ≡ true) × (new ≡ s))
