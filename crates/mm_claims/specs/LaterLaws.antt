-- What stays true when names and statements are added.
use Rattle.std.specs.Prelude.{◌≡◌, ℕ, ◌≤◌, List, [], ◌∷◌, ◌++◌, length, take, Contains}
use Rattle.mm_text.specs.Bytes.{Token}
use Rattle.ml_pat.specs.Patterns.{Pattern}
use Rattle.ml_pat.specs.Leaves.{EachLeaf}
use Rattle.mm_claims.specs.Rendered.{Rendered}
use Rattle.mm_claims.specs.OverNames.{closed_over}
use Rattle.mm_claims.specs.Blocks.{Stated}
use Rattle.mm_claims.specs.Keeping.{Fits}
use Rattle.mm_claims.specs.Places.{IsStated}

-- a text that fits what is kept of some names still fits it when the names gain tokens
abbrev pub FitsLater : Type 0
FitsLater = (names more : List Token) (k : Rendered) (bytes : List ℕ) → k.named ≤ length names
    → Fits names k bytes → Fits (names ++ more) k bytes

-- if all names are declared, the declared names are all names
abbrev pub AllDeclared : Type 0
AllDeclared =
    (names : List Token) (k : Rendered) → k.named ≡ length names → take k.named names ≡ names

-- what is closed over names stays so when they gain tokens
abbrev pub ClosedStays : Type 0
ClosedStays = (names more : List Token) (p : Pattern) → EachLeaf (closed_over names) p
    → EachLeaf (closed_over (names ++ more)) p

-- a claim that was stated last was stated; what was stated among some claims was stated among all
-- that contain them
abbrev pub LastIsStated : Type 0
LastIsStated = (stated : List Stated) (s : Stated)
    → IsStated (stated ++ s ∷ []) s.claim.hypotheses s.claim.conclusion

abbrev pub StatedStays : Type 0
StatedStays =
    (stated others : List Stated) (hypotheses : List Pattern) (conclusion : Pattern) →
    ((s : Stated) → Contains stated s → Contains others s) → IsStated stated hypotheses conclusion →
    IsStated others hypotheses conclusion
