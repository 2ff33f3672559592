-- How a claim is found among those that were stated, and what may be proved with these.
use Rattle.std.specs.Prelude.{◌≡◌, ℕ, true, IsTrue, List, [], ◌∷◌, ◌++◌, take, Contains}
use Rattle.mm_text.specs.Bytes.{Token}
use Rattle.ml_pat.specs.Patterns.{Pattern}
use Rattle.ml_kernel.specs.Theorems.{Theorem}
use Rattle.ml_kernel.specs.UsedLeaves.{EachUsed}
use Rattle.ml_kernel.specs.MayCite.{MayCite, EachCited}
use Rattle.mm_claims.specs.Rendered.{Rendered, all_stated}
use Rattle.mm_claims.specs.OverNames.{over_names, AreOverNames}
use Rattle.mm_claims.specs.Variables.{Variable}
use Rattle.mm_claims.specs.Blocks.{Stated, theorem_statements, open_assertion}
use Rattle.mm_claims.specs.CitedAt.{ArePremises}
use Rattle.mm_claims.specs.Claiming.{IsProofOfClaim}
use Rattle.mm_claims.specs.ClaimVariables.{claim_of, claim_variables}
use Rattle.mm_claims.specs.Keeping.{Gains}
use Rattle.mm_database.specs.StatementTexts.{written_statements}

-- this claim is among some claims, and it has this conclusion under these hypotheses
pub record IsFoundAs (claims : List Stated) (hypotheses : List Pattern) (conclusion : Pattern)
    (s : Stated) : Type 0
  where
    pub there : Contains claims s
    pub hypotheses_are : s.claim.hypotheses ≡ hypotheses
    pub conclusion_is : s.claim.conclusion ≡ conclusion

abbrev pub IsStated : List Stated → List Pattern → Pattern → Type 0
IsStated claims hypotheses conclusion = (s : Stated) × IsFoundAs claims hypotheses conclusion s

-- What was stated may be cited. A lemma may be cited at patterns over declared names.
abbrev pub stated_cites : List Token → List Stated → MayCite
stated_cites declared claims = record {
  fact = λ p new. IsStated claims [] p;
  lemma = λ own q ms. IsStated claims own q × AreOverNames declared ms;
}

-- What may be proved after what is kept: a pattern under hypotheses, over the declared names. Its
-- derivation uses only patterns over these names and cites only what was stated.
pub record MayProve (names : List Token) (k : Rendered) (t : Theorem) : Type 0 where
  pub begun : IsTrue k.begun
  pub over : AreOverNames (take k.named names) (t.conclusion ∷ t.hypotheses)
  pub used : EachUsed (over_names (take k.named names)) t.derivation
  pub cites : EachCited (stated_cites (take k.named names) (all_stated k)) t.derivation

-- each claim that was stated is found
abbrev pub Finds : List Stated → (List Pattern → Pattern → Stated) → Type 0
Finds claims find =
    (hypotheses : List Pattern) (conclusion : Pattern) → IsStated claims hypotheses conclusion →
    IsFoundAs claims hypotheses conclusion (find hypotheses conclusion)

-- a lemma as the theorem with a number, with more variables in its block and with its proof
abbrev pub lemma_statements : List Token → ℕ → Theorem → List Variable → List Token
    → List (List Token)
lemma_statements names k t more proof =
    theorem_statements names k (claim_of t.hypotheses t.conclusion) more proof

-- A lemma was stated. Its statements were appended. Its proof is that of its derivation, and each
-- citation in it has the label of the claim, or of the place of the hypothesis. If the lemma may be
-- proved, exactly this theorem is gained, and the typings of its variables and of those that occur
-- only in its proof.
pub record StatesLemma (names : List Token) (old new : Rendered) (t : Theorem)
    (text text' : List ℕ) : Type 0 where
  pub find : List Pattern → Pattern → Stated
  pub premise_place : Pattern → ℕ
  pub more : List Variable
  pub proof : List Token
  pub finds : Finds (all_stated old) find
  pub premises : ArePremises t.hypotheses premise_place
  pub proves : IsProofOfClaim names old.count find premise_place
      (claim_of t.hypotheses t.conclusion) t.derivation proof
  pub appended : text'
      ≡ text ++ written_statements (lemma_statements names old.count t more proof)
  pub gains : MayProve names old t →
      Gains names old new (written_statements (lemma_statements names old.count t more proof))
      (claim_variables t.hypotheses t.conclusion ++ more)
      (open_assertion true (take old.named names) old.count (claim_of t.hypotheses t.conclusion))
