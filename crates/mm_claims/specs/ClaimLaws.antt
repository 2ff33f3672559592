-- Which patterns are a claim, and which variables its block needs.
use Rattle.std.specs.Prelude.{◌≡◌, ◌<◌, ◌^◌, true, List, ◌∷◌, ◌++◌, length, ℕ}
use Rattle.mm_text.specs.Bytes.{Token}
use Rattle.ml_pat.specs.Patterns.{Pattern}
use Rattle.ml_kernel.specs.Theorems.{Derivation}
use Rattle.ml_kernel.specs.Concluding.{Concludes}
use Rattle.ml_kernel.specs.UsedLeaves.{EachUsed}
use Rattle.ml_kernel.specs.MayCite.{EachCited}
use Rattle.mm_claims.specs.Variables.{Variable, are_once, AreNumbered}
use Rattle.mm_claims.specs.OverNames.{AreOverNames, over_names}
use Rattle.mm_claims.specs.Blocks.{Claim, IsClaim}
use Rattle.mm_claims.specs.OpenVariables.{variables_of}
use Rattle.mm_claims.specs.ClaimVariables.{claim_variables, claim_of, other_variables}
use Rattle.mm_claims.specs.CitedAt.{ArePremises, at_places}
use Rattle.mm_claims.specs.Citable.{citable}
use Rattle.mm_claims.specs.Provable.{HaveNeeded, IsProvable}

-- patterns over declared names are a claim if their variables have numbers of 64 bits
abbrev pub OverNamesIsClaim : Type 0
OverNamesIsClaim =
    (declared : List Token) (hypotheses : List Pattern) (conclusion : Pattern)
    → AreOverNames declared (conclusion ∷ hypotheses) →
    AreNumbered (claim_variables hypotheses conclusion) → length hypotheses < 2 ^ 64
    → IsClaim declared (claim_of hypotheses conclusion)

-- A derivation that uses declared names and cites claims can be written in a block that declares
-- the variables of its claim and more variables, if those that the derivation needs are among them.
abbrev pub NeededAreEnough : Type 0
NeededAreEnough =
    (declared : List Token) (claims : List Claim) (s : Claim) (more : List Variable)
    (d : Derivation) (place : List Pattern → Pattern → ℕ) (premise_place : Pattern → ℕ) →
    HaveNeeded (variables_of (at_places claims place) d) (s.variables ++ more)
    → Concludes s.hypotheses d s.conclusion →
    EachUsed (over_names declared) d → EachCited (citable (over_names declared) claims place) d
    → ArePremises s.hypotheses premise_place →
    IsProvable declared claims s more d place premise_place

-- These are among some variables and the others that the derivation needs.
abbrev pub OthersAreEnough : Type 0
OthersAreEnough =
    (vs needed : List Variable) → are_once vs ≡ true → AreNumbered vs → AreNumbered needed →
    HaveNeeded needed (vs ++ other_variables vs needed)
