-- Theorems that may be claimed.
use Rattle.std.specs.Prelude.{◌≡◌, ℕ, true, List, ◌++◌}
use Rattle.mm_text.specs.Bytes.{Token}
use Rattle.ml_pat.specs.Patterns.{Pattern}
use Rattle.ml_kernel.specs.Theorems.{Derivation}
use Rattle.ml_kernel.specs.Concluding.{Concludes}
use Rattle.ml_kernel.specs.UsedLeaves.{EachUsed}
use Rattle.ml_kernel.specs.MayCite.{EachCited}
use Rattle.mm_claims.specs.Variables.{Variable, has_variable, are_once, AreNumbered}
use Rattle.mm_claims.specs.Blocks.{Claim}
use Rattle.mm_claims.specs.OverNames.{open_over}
use Rattle.mm_claims.specs.CitedAt.{ArePremises}
use Rattle.mm_claims.specs.Citable.{citable}

-- The variables of a block have numbers, each of them is there once, and the variables that a proof
-- needs are among them.
pub record HaveNeeded (needed vs : List Variable) : Type 0 where
  pub once : are_once vs ≡ true
  pub numbered : AreNumbered vs
  pub there : (v : Variable) → has_variable needed v ≡ true → has_variable vs v ≡ true

-- A theorem that may be claimed. Its derivation from its hypotheses uses only what is declared and
-- the variables of the block, and cites only what was claimed before.
pub record IsProvable (declared : List Token) (claims : List Claim) (s : Claim)
    (more : List Variable) (d : Derivation) (place : List Pattern → Pattern → ℕ)
    (premise_place : Pattern → ℕ) : Type 0 where
  pub once : are_once (s.variables ++ more) ≡ true
  pub numbered : AreNumbered (s.variables ++ more)
  pub concludes : Concludes s.hypotheses d s.conclusion
  pub used : EachUsed (open_over declared (s.variables ++ more)) d
  pub cites : EachCited (citable (open_over declared (s.variables ++ more)) claims place) d
  pub premises : ArePremises s.hypotheses premise_place
