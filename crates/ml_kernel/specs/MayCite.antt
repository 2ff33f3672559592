-- The axioms and lemmas that a derivation cites.
use Rattle.std.specs.Prelude.{ℕ, List}
use Rattle.ml_pat.specs.Patterns.{Pattern}
use Rattle.ml_kernel.specs.Theorems.{Derivation, Derivations, hypothesis, own_axiom, by_rule, cited}
use Rattle.ml_kernel.specs.Theorems.{no_derivation, more_derivations}

-- which axioms may be cited, with which new numbers of their bound variables, and which lemmas, at
-- which patterns
pub record MayCite : Type 1 where
  pub fact : Pattern → List ℕ → Type 0
  pub lemma : List Pattern → Pattern → List Pattern → Type 0

-- each axiom and each lemma that a derivation cites may be cited
abbrev mutual
  pub EachCited : MayCite → Derivation → Type 0
  EachCited k (hypothesis p) = Unit {0}
  EachCited k (own_axiom n p new) = k.fact p new
  EachCited k (by_rule r is ds) = AllCited k ds
  EachCited k (cited own q d ms ds) = k.lemma own q ms × AllCited k ds

  pub AllCited : MayCite → Derivations → Type 0
  AllCited k no_derivation = Unit {0}
  AllCited k (more_derivations d ds) = EachCited k d × AllCited k ds
