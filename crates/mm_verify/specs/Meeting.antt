-- Variables that were met, one text after another. Only clauses of private functions cite these
-- definitions.
use Rattle.std.specs.Prelude.{◌≡◌, ℕ, true, false, List, [], ◌∷◌, ◌++◌, is_some}
use Rattle.std.specs.Ordering.{nat_cmp}
use Rattle.std.specs.BTreeMap.{get}
use Rattle.mm_frame.specs.PlainFrames.{has_number, in_group}
use Rattle.mm_frame.specs.NumberedSteps.{NumberedPlace}
use Rattle.mm_verify.specs.declared.together.Met.{Met}
use Rattle.mm_verify.specs.declared.parts.Part.{Part}
use Rattle.mm_verify.specs.Places.{place_in}
use Rattle.mm_verify.specs.Filling.{text_for, are_parts_apart}
use Rattle.mm_verify.specs.Pairs.{each_pair}

-- the table has each variable that was met
abbrev pub AreSeen : Met → Type 0
AreSeen m = (n : ℕ) → has_number m.variables.items n ≡ true → is_some (get nat_cmp m.seen n) ≡ true

-- one more variable is met, and it is new
pub record MeetsOne (old : Met) (n : ℕ) (new : Met) : Type 0 where
  pub seen : AreSeen new
  pub all : new.variables.items ≡ old.variables.items ++ n ∷ []
  pub fresh : has_number old.variables.items n ≡ false

-- several more variables are met, and none of them was met before
pub record MeetsAll (old : Met) (list : List ℕ) (new : Met) : Type 0 where
  pub seen : AreSeen new
  pub all : new.variables.items ≡ old.variables.items ++ list
  pub fresh : (n : ℕ) → has_number list n ≡ true → has_number old.variables.items n ≡ false

-- the number is a variable of the text
abbrev pub StandsIn : NumberedPlace → List ℕ → ℕ → Type 0
StandsIn p text n = (has_number text n ≡ true) × (p.is_variable n ≡ true)

-- the variables of a text are met, and none of them was met before
pub record MeetsText (p : NumberedPlace) (text : List ℕ) (old new : Met) : Type 0 where
  pub seen : AreSeen new
  pub keeps : (n : ℕ) → has_number old.variables.items n ≡ true
      → has_number new.variables.items n ≡ true
  pub all : (n : ℕ) → StandsIn p text n → has_number new.variables.items n ≡ true
  pub fresh : (n : ℕ) → StandsIn p text n → has_number old.variables.items n ≡ false

-- the variables of the texts of these parts were met
abbrev pub HaveMet : NumberedPlace → List (List ℕ) → Met → List Part → Type 0
HaveMet p entries m [] = Unit {0}
HaveMet p entries m (part ∷ parts) =
    ((n : ℕ) → StandsIn p (text_for entries (place_in part)) n
    → has_number m.variables.items n ≡ true)
    × HaveMet p entries m parts

-- each two different variables that were met are kept apart
abbrev pub Together : NumberedPlace → Met → Type 0
Together p m = (a b : ℕ) → in_group a b m.variables.items ≡ true → p.apart a b ≡ true

-- the variables of the texts of these parts were met; if these variables are kept apart, so are the
-- parts
pub record AreMet (p : NumberedPlace) (entries : List (List ℕ)) (m : Met) (parts : List Part) :
    Type 0 where
  pub seen : AreSeen m
  pub met : HaveMet p entries m parts
  pub apart : Together p m → each_pair (are_parts_apart p entries) parts ≡ true
