-- Readings of what stands in a proof: of all that is active where the proof stands, and of what an
-- assertion says after a substitution.
use Rattle.std.specs.Prelude.{◌≡◌, ℕ, Bool, false, true, ◌||◌, if◌then◌else◌, List, [], ◌∷◌, Some}
use Rattle.std.specs.Prelude.{bytes_eq, codes}
use Rattle.std.specs.List.{list_any}
use Rattle.mm_text.specs.Bytes.{Token, has_token}
use Rattle.mm_database.specs.Frames.{Hypothesis, floating, essential, statement_of, types, Frame}
use Rattle.mm_database.specs.Database.{Context}
use Rattle.mm_database.specs.Proofs.{Expression}
use Rattle.mm_database.specs.Orderly.{TypeOnce}
use Rattle.ml_pat.specs.Patterns.{Pattern}
use Rattle.mm_readings.specs.Letters.{letter_of}
use Rattle.mm_readings.specs.Holding.{Holds}
use Rattle.mm_readings.specs.Readings.{Reading, put, ShareNone, AllHold, IsSound}

-- A reading is fit in a context. It reads as constants the tokens that are no variables. The active
-- hypotheses hold, and two variables with an active `$d` share no object variable.
pub record IsFitIn (IsAxiom : Pattern → Type 0) (number : Token → ℕ) (c : Context) (m : Reading) :
    Type 0 where
  pub constants : (t : Token) → c.variables t ≡ false → m t ≡ letter_of number t ∷ []
  pub hypotheses : AllHold IsAxiom m c.scope.hypotheses
  pub apart : (x y : Token) → bytes_eq x y ≡ false → c.scope.apart x y ≡ true
      → ShareNone (m x) (m y)

-- The reading of a frame after a substitution: a variable of the frame is read as the text that
-- replaces it.
abbrev pub after_substitution : (Token → ℕ) → Reading → Frame → (Token → Expression) → Reading
after_substitution number m f sigma = λ t.
    if list_any (types t) f.hypotheses then put m (sigma t) else letter_of number t ∷ []

abbrev pub EachHolds : (Pattern → Type 0) → Reading → List Expression → Type 0
EachHolds IsAxiom m [] = Unit {0}
EachHolds IsAxiom m (e ∷ es) = Holds IsAxiom (put m e) × EachHolds IsAxiom m es

-- the token stands in a hypothesis of the list
abbrev pub is_in_any : List Hypothesis → Token → Bool
is_in_any hypotheses token = list_any (λ h. has_token (statement_of h) token) hypotheses

-- no typecode is a variable
abbrev pub HaveTypecodes : Context → List Hypothesis → Type 0
HaveTypecodes c [] = Unit {0}
HaveTypecodes c (floating label typecode variable ∷ hypotheses) =
    (c.variables typecode ≡ false) × HaveTypecodes c hypotheses
HaveTypecodes c (essential label statement ∷ hypotheses) = HaveTypecodes c hypotheses

-- A frame types its variables: of the tokens of the frame, exactly these are variables in the
-- context.
pub record TypesItsVariables (c : Context) (f : Frame) : Type 0 where
  pub tokens : (t : Token) → (has_token f.statement t || is_in_any f.hypotheses t) ≡ true
      → list_any (types t) f.hypotheses ≡ c.variables t
  pub typecodes : HaveTypecodes c f.hypotheses

-- each assertion of the context is sound and types its variables
pub record HasSoundFrames (IsAxiom : Pattern → Type 0) (number : Token → ℕ) (c : Context) :
    Type 0 where
  pub sound : (label : Token) (f : Frame) → c.frames label ≡ Some f → IsSound IsAxiom number f
  pub typed : (label : Token) (f : Frame) → c.frames label ≡ Some f → TypesItsVariables c f

-- the words of the three types
abbrev pub typecodes : List Token
typecodes = codes "#Pattern" ∷ (codes "#Sort" ∷ (codes "#Var" ∷ []))

abbrev pub HaveKnownTypes : List Hypothesis → Type 0
HaveKnownTypes [] = Unit {0}
HaveKnownTypes (floating label typecode variable ∷ hypotheses) =
    (has_token typecodes typecode ≡ true) × HaveKnownTypes hypotheses
HaveKnownTypes (essential label statement ∷ hypotheses) = HaveKnownTypes hypotheses

-- each active `$f` gives one of the three types to a variable that no other one types
pub record TypesWell (c : Context) : Type 0 where
  pub once : TypeOnce c.scope.hypotheses
  pub variables : (t : Token) → list_any (types t) c.scope.hypotheses ≡ true
      → c.variables t ≡ true
  pub typecodes : HaveTypecodes c c.scope.hypotheses
  pub known : HaveKnownTypes c.scope.hypotheses
