-- What the lemma of an equation says.
use Rattle.std.specs.Prelude.{◌≡◌, ℕ, List, ◌++◌, length, Contains}
use Rattle.ml_pat.specs.Patterns.{Pattern, imp}
use Rattle.ml_kernel.specs.Theorems.{Theorem}
use Rattle.rule_core.specs.Rules.{Equation}
use Rattle.prove_term.specs.Contexts.{Context}
use Rattle.prove_term.specs.EquationAxioms.{SaysEquationOf}
use Rattle.prove_schema.specs.Schemas.{with_metas, meta_facts, parts_of, IsSentence}

-- The image of the equation is a sentence for all elements of some sorts: if a condition holds, an
-- equality does. The theorem says the equality of pattern variables. It assumes that these are
-- elements of the sorts, and the parts of the condition. It assumes nothing else.
pub record SaysEquationSchema (cx : Context) (f : ℕ) (e : Equation) (t : Theorem) : Type 0 where
  pub sentence : Pattern
  pub is_sentence : SaysEquationOf cx f e sentence
  pub numbers : List ℕ
  pub condition : Pattern
  pub equality : Pattern
  pub closes : IsSentence numbers (imp condition equality) sentence
  pub says : t.conclusion ≡ with_metas (length numbers) equality
  pub assumes : (h : Pattern) → Contains t.hypotheses h →
      Contains (meta_facts 0 numbers ++ parts_of (with_metas (length numbers) condition)) h

-- the theorem is a lemma of the context, and is the lemma of the equation
pub record IsEquationLemma (cx : Context) (f : ℕ) (e : Equation) (t : Theorem) : Type 0 where
  pub listed : Contains cx.lemmas t
  pub says : SaysEquationSchema cx f e t
