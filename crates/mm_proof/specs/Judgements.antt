-- The judgements that a proof may end with.
use Rattle.std.specs.Prelude.{ℕ, List, ◌∷◌, ◌++◌, codes}
use Rattle.mm_text.specs.Bytes.{Token}
use Rattle.ml_pat.specs.Patterns.{Pattern}
use Rattle.mm_proof.specs.Tokens.{Letters, text_by}

-- what a statement of the logic says: a pattern is one; a pattern holds; a variable is not free in
-- a pattern; a pattern is another one with a pattern substituted for a variable; or a pattern is
-- everything or nothing
pub data Judgement : Type 0 where
  is_pattern : Pattern → Judgement
  holds : Pattern → Judgement
  is_fresh : ℕ → Pattern → Judgement
  is_substituted : Pattern → Pattern → Pattern → ℕ → Judgement
  is_predicate : Pattern → Judgement

abbrev pub judgement_by : Letters → Judgement → List Token
judgement_by l (is_pattern p) = codes "#Pattern" ∷ text_by l p
judgement_by l (holds p) = codes "|-" ∷ text_by l p
judgement_by l (is_fresh x p) = codes "#Fresh" ∷ (l.object x ++ text_by l p)
judgement_by l (is_substituted t p u x) =
    codes "#Sub" ∷ (text_by l t ++ (text_by l p ++ (text_by l u ++ l.object x)))
judgement_by l (is_predicate p) = codes "#Pred" ∷ text_by l p
