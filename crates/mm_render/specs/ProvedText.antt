-- A theorem with its proof after a text. Only clauses of private functions cite this.
use Rattle.std.specs.Prelude.{◌≡◌, ℕ, true, List, ◌++◌, take}
use Rattle.mm_text.specs.Bytes.{Token}
use Rattle.mm_database.specs.StatementTexts.{written_statements}
use Rattle.ml_pat.specs.Patterns.{Pattern}
use Rattle.ml_kernel.specs.Theorems.{Derivation, Theorem}
use Rattle.mm_claims.specs.Blocks.{Claim, Stated, open_assertion, theorem_statements}
use Rattle.mm_claims.specs.CitedAt.{ArePremises}
use Rattle.mm_claims.specs.Claiming.{IsProofOfClaim}
use Rattle.mm_claims.specs.ClaimVariables.{claim_of, claim_variables}
use Rattle.mm_claims.specs.Keeping.{Gains, with_last, with_stated}
use Rattle.mm_claims.specs.OpenVariables.{variables_of}
use Rattle.mm_claims.specs.Places.{Finds, MayProve, lemma_statements}
use Rattle.mm_claims.specs.Provable.{HaveNeeded}
use Rattle.mm_claims.specs.Rendered.{Rendered, all_stated}
use Rattle.mm_claims.specs.Variables.{Variable, are_once, AreNumbered}

-- A claim was written as the theorem with a number, with its proof by a derivation. Its block has
-- all variables that the derivation needs.
pub record WritesTheorem (names : List Token) (k : ℕ) (find : List Pattern → Pattern → Stated)
    (premise_place : Pattern → ℕ) (s : Claim) (d : Derivation) (text text' : List ℕ) : Type 0 where
  pub more : List Variable
  pub proof : List Token
  pub needed : are_once s.variables ≡ true → AreNumbered s.variables
      → HaveNeeded (variables_of find d) (s.variables ++ more)
  pub proves : IsProofOfClaim names k find premise_place s d proof
  pub appended : text' ≡ text ++ written_statements (theorem_statements names k s more proof)

-- exactly this theorem is gained, if it is kept as a lemma or as the last of a run
abbrev pub GainsTheorem : List Token → Rendered → Rendered → Theorem → List Variable → List Token
    → Type 0
GainsTheorem names old new t more proof =
    Gains names old new (written_statements (lemma_statements names old.count t more proof))
    (claim_variables t.hypotheses t.conclusion ++ more)
    (open_assertion true (take old.named names) old.count (claim_of t.hypotheses t.conclusion))

pub record WritesProof (names : List Token) (k : Rendered) (t : Theorem) (text text' : List ℕ) :
    Type 0 where
  pub find : List Pattern → Pattern → Stated
  pub premise_place : Pattern → ℕ
  pub more : List Variable
  pub proof : List Token
  pub finds : Finds (all_stated k) find
  pub premises : ArePremises t.hypotheses premise_place
  pub proves : IsProofOfClaim names k.count find premise_place
      (claim_of t.hypotheses t.conclusion) t.derivation proof
  pub appended : text' ≡ text ++ written_statements (lemma_statements names k.count t more proof)
  pub gains : MayProve names k t
      → GainsTheorem names k (with_stated k (claim_of t.hypotheses t.conclusion)) t more proof
  pub gains_last : MayProve names k t
      → GainsTheorem names k (with_last k (claim_of t.hypotheses t.conclusion)) t more proof
