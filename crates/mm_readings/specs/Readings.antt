-- Readings of the statements of a database, and when a frame is sound under them.
use Rattle.std.specs.Prelude.{◌≡◌, ℕ, ◌==◌, Bool, true, false, List, [], ◌∷◌, flat_map}
use Rattle.std.specs.List.{list_any}
use Rattle.mm_text.specs.Bytes.{Token}
use Rattle.mm_database.specs.Frames.{Hypothesis, statement_of, types, Frame}
use Rattle.ml_pat.specs.Patterns.{Pattern}
use Rattle.mm_readings.specs.Letters.{Letter, object_letter, letter_of}
use Rattle.mm_readings.specs.Holding.{Holds}

-- A reading gives each token a text: a constant its letter, and a variable the text of a pattern,
-- of a sort or of an object variable.
abbrev pub Reading : Type 0
Reading = Token → List Letter

-- the text of some tokens
abbrev pub put : Reading → List Token → List Letter
put m tokens = flat_map m tokens

abbrev pub is_object : ℕ → Letter → Bool
is_object x (object_letter y) = x == y
is_object x letter = false

-- whether the object variable stands in the text
abbrev pub has_object : ℕ → List Letter → Bool
has_object x letters = list_any (is_object x) letters

-- no object variable stands in both texts
abbrev pub ShareNone : List Letter → List Letter → Type 0
ShareNone a b = (x : ℕ) → has_object x a ≡ true → has_object x b ≡ true → ⊥

-- the statement of each hypothesis holds; that of a `$f` says that the variable is read by its type
abbrev pub AllHold : (Pattern → Type 0) → Reading → List Hypothesis → Type 0
AllHold IsAxiom m [] = Unit {0}
AllHold IsAxiom m (h ∷ hypotheses) =
    Holds IsAxiom (put m (statement_of h)) × AllHold IsAxiom m hypotheses

-- A reading is fit for a frame. It reads as constants the tokens that are no variables of the
-- frame. The hypotheses of the frame hold, and its pairs share no object variable, bound or free.
pub record IsFit (IsAxiom : Pattern → Type 0) (number : Token → ℕ) (f : Frame) (m : Reading) :
    Type 0 where
  pub constants : (t : Token) → list_any (types t) f.hypotheses ≡ false
      → m t ≡ letter_of number t ∷ []
  pub hypotheses : AllHold IsAxiom m f.hypotheses
  pub apart : (a b : Token) → f.apart a b ≡ true → ShareNone (m a) (m b)

-- a frame is sound if its statement holds under each fit reading
abbrev pub IsSound : (Pattern → Type 0) → (Token → ℕ) → Frame → Type 0
IsSound IsAxiom number f =
    (m : Reading) → IsFit IsAxiom number f m → Holds IsAxiom (put m f.statement)
