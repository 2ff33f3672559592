-- The proof that is written for a derivation, by recursion. How hypotheses, axioms and lemmas are
-- cited depends on the statement of the proof. A rule is its label over the proofs of its premises.
use Rattle.std.specs.Prelude.{ℕ, List, [], ◌∷◌}
use Rattle.mm_database.specs.Proofs.{Expression, ProofTree}
use Rattle.ml_pat.specs.Patterns.{Pattern}
use Rattle.ml_kernel.specs.Theorems.{Derivation, Derivations, hypothesis, own_axiom, by_rule, cited}
use Rattle.ml_kernel.specs.Theorems.{no_derivation, more_derivations}
use Rattle.mm_proof.specs.Tokens.{Naming, letters_of}
use Rattle.mm_proof.specs.Judgements.{holds, judgement_by}
use Rattle.mm_proof.specs.Trees.{rule_tree}

-- what is written to say that a pattern holds
abbrev pub holds_text : Naming → Pattern → Expression
holds_text n p = judgement_by (letters_of n) (holds p)

-- The proofs that cite a hypothesis, an axiom and a lemma. An axiom is cited with new numbers for
-- its bound variables. A lemma is cited by its hypotheses and conclusion, at patterns for its
-- pattern variables, over proofs of its hypotheses.
pub record Citing : Type 0 where
  pub premise : Pattern → ProofTree
  pub fact : Pattern → List ℕ → ProofTree
  pub lemma : List Pattern → Pattern → List Pattern → List ProofTree → ProofTree

abbrev mutual
  pub derivation_tree : Naming → Citing → Derivation → ProofTree
  derivation_tree l s (hypothesis p) = s.premise p
  derivation_tree l s (own_axiom n p new) = s.fact p new
  derivation_tree l s (by_rule r is ds) = rule_tree l r is (derivation_trees l s ds)
  derivation_tree l s (cited own q d ms ds) = s.lemma own q ms (derivation_trees l s ds)

  pub derivation_trees : Naming → Citing → Derivations → List ProofTree
  derivation_trees l s no_derivation = []
  derivation_trees l s (more_derivations d ds) = derivation_tree l s d ∷ derivation_trees l s ds
