-- A theorem that was written to a text of its own; this text was appended, and the theorem is kept.
use Rattle.std.proofs.Common.{◌≡◌, ℕ, List, [], ◌++◌, ap, ◌∙◌, sym, subst}
use Rattle.mm_text.specs.Bytes.{Token}
use Rattle.mm_database.specs.StatementTexts.{written_statements}
use Rattle.ml_kernel.specs.Theorems.{Theorem}
use Rattle.mm_claims.specs.Blocks.{Claim}
use Rattle.mm_claims.specs.ClaimVariables.{claim_of}
use Rattle.mm_claims.specs.Rendered.{Rendered}
use Rattle.mm_claims.specs.Places.{MayProve, StatesLemma, lemma_statements}
use Rattle.mm_render.specs.ProvedText.{GainsTheorem, WritesProof}

-- `keep` says how it is kept: as a lemma, or as the last of a run
pub states_written : (names : List Token) (old new : Rendered) (t : Theorem)
    (keep : Rendered → Claim → Rendered) (claim : Claim)
    (before own text after : List ℕ) (w : WritesProof names old t own text)
    → (MayProve names old t
    → GainsTheorem names old (keep old (claim_of t.hypotheses t.conclusion)) t w.more w.proof)
    → own ≡ [] → claim ≡ claim_of t.hypotheses t.conclusion → after ≡ before ++ text
    → new ≡ keep old claim
    → StatesLemma names old new t before after
states_written names old new t keep claim before own text after w gains empty claimed appended
    kept = record {
      find = w.find;
      premise_place = w.premise_place;
      more = w.more;
      proof = w.proof;
      finds = w.finds;
      premises = w.premises;
      proves = w.proves;
      appended = appended ∙ ap (λ (bytes : List ℕ). before ++ bytes)
          (w.appended
          ∙ ap (λ (bytes : List ℕ). bytes
          ++ written_statements (lemma_statements names old.count t w.more w.proof))
          empty);
      gains =
          λ may. subst (λ (k : Rendered). GainsTheorem names old k t w.more w.proof)
          (sym (kept ∙ ap (keep old) claimed)) (gains may);
    }
