-- The number of steps of a derivation, without the steps of the lemmas that it cites.
use Rattle.std.specs.Prelude.{ℕ, ◌+◌}
use Rattle.ml_kernel.specs.Theorems.{Derivation, Derivations, hypothesis, own_axiom, by_rule, cited}
use Rattle.ml_kernel.specs.Theorems.{no_derivation, more_derivations}

abbrev mutual
  pub steps_in : Derivation → ℕ
  steps_in (hypothesis p) = 1
  steps_in (own_axiom n p new) = 1
  steps_in (by_rule r is ds) = all_steps ds + 1
  steps_in (cited hyps q d ms ds) = all_steps ds + 1

  pub all_steps : Derivations → ℕ
  all_steps no_derivation = 0
  all_steps (more_derivations d ds) = steps_in d + all_steps ds
