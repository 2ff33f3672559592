-- Which texts fit what a renderer keeps.
use Rattle.std.specs.Prelude.{◌≡◌, ℕ, ◌+◌, Bool, true, false, IsTrue, List, [], ◌∷◌, ◌++◌, length}
use Rattle.std.specs.Prelude.{take, Contains, slice_get, slice_index_or, Some}
use Rattle.mm_text.specs.Bytes.{Token}
use Rattle.mm_database.specs.Assertions.{Assertion}
use Rattle.ml_pat.specs.Patterns.{Pattern, bot}
use Rattle.mm_claims.specs.Rendered.{Rendered, all_stated}
use Rattle.mm_claims.specs.OverNames.{AreOverNames}
use Rattle.mm_claims.specs.Variables.{Variable}
use Rattle.mm_claims.specs.Blocks.{Claim, Stated}
use Rattle.mm_claims.specs.Claiming.{FitsClaims, GainsExactly}

-- claims with their numbers are among those of a text, each at the place of its number
abbrev pub AreAmong : List Claim → List Stated → Type 0
AreAmong claims kept = (s : Stated) → Contains kept s → slice_get claims s.number ≡ Some s.claim

-- a text has declared names and `count` claims, and these claims are among them
pub record FitsStated (declared : List Token) (count : ℕ) (kept : List Stated) (bytes : List ℕ) :
    Type 0 where
  pub claims : List Claim
  pub fits : FitsClaims declared claims bytes
  pub counted : length claims ≡ count
  pub among : AreAmong claims kept

-- A text fits: it is valid, ends with white space and has no open block. If nothing is kept, it is
-- empty. Otherwise it has declared the header, the kept names, which are the first of these, and as
-- many claims as were counted. The kept claims are among them.
abbrev pub FitsWhen : Bool → List Token → ℕ → List Stated → List ℕ → Type 0
FitsWhen false declared count kept bytes = bytes ≡ []
FitsWhen true declared count kept bytes = FitsStated declared count kept bytes

abbrev pub Fits : List Token → Rendered → List ℕ → Type 0
Fits names k bytes = FitsWhen k.begun (take k.named names) k.count (all_stated k) bytes

-- if a text fits what was kept, then with the appended bytes it fits what is kept now
abbrev pub AppendsFittingNames : List Token → Rendered → Rendered → List ℕ → Type 0
AppendsFittingNames names old new appended =
    (bytes : List ℕ) → Fits names old bytes → Fits names new (bytes ++ appended)

abbrev pub AppendsFitting : Rendered → Rendered → List ℕ → Type 0
AppendsFitting old new appended = (names : List Token) → AppendsFittingNames names old new appended

-- and it has gained exactly this assertion, and the typings of these variables
pub record Gains (names : List Token) (old new : Rendered) (appended : List ℕ) (vs : List Variable)
    (a : Assertion) : Type 0 where
  pub fits : AppendsFittingNames names old new appended
  pub just : (bytes : List ℕ) → Fits names old bytes → GainsExactly bytes appended old.count vs a

-- what may be stated: the header was written, and the pattern is over the declared names
pub record MayState (names : List Token) (k : Rendered) (p : Pattern) : Type 0 where
  pub begun : IsTrue k.begun
  pub over : AreOverNames (take k.named names) (p ∷ [])

-- what is kept after one more claim, which has the next number
abbrev pub with_stated : Rendered → Claim → Rendered
with_stated k s =
    record k {
      count = k.count + 1;
      stated = k.stated ++ record { number = k.count; claim = s } ∷ [];
    }

-- the same, but the claim replaces the last of a run
abbrev pub with_last : Rendered → Claim → Rendered
with_last k s = record k { count = k.count + 1; last = record { number = k.count; claim = s } ∷ [] }

-- the axiom of a theory with this number
abbrev pub axiom_at : List Pattern → ℕ → Pattern
axiom_at theory i = slice_index_or theory i bot
