-- What a stored derivation concludes from hypotheses, step by step.
use Rattle.std.specs.Prelude.{◌≡◌, List, [], ◌∷◌, Contains}
use Rattle.ml_pat.specs.Patterns.{Pattern}
use Rattle.ml_kernel.specs.Rules.{Infers}
use Rattle.ml_kernel.specs.Renamings.{Renames, by_place}
use Rattle.ml_kernel.specs.Lemmas.{instance, instances, HasNoMeta, HaveNoVariables}
use Rattle.ml_kernel.specs.Theorems.{Derivation, Derivations, hypothesis, own_axiom, by_rule, cited}
use Rattle.ml_kernel.specs.Theorems.{no_derivation, more_derivations, Theorem}

abbrev mutual
  pub Concludes : List Pattern → Derivation → Pattern → Type 0
  Concludes hyps (hypothesis p) q = Contains hyps p × (p ≡ q)
  Concludes hyps (own_axiom n p new) q = HasNoMeta p × Renames (by_place new) p q
  Concludes hyps (by_rule r is ds) q =
      (ps : List Pattern) × (Infers r is ps q × AllConclude hyps ds ps)
  Concludes hyps (cited own p d ms ds) q =
      Concludes own d p
      × (HaveNoVariables ms × ((instance ms p ≡ q) × AllConclude hyps ds (instances ms own)))

  -- the derivations conclude these patterns, in order
  pub AllConclude : List Pattern → Derivations → List Pattern → Type 0
  AllConclude hyps no_derivation [] = Unit {0}
  AllConclude hyps no_derivation (p ∷ ps) = ⊥
  AllConclude hyps (more_derivations d ds) [] = ⊥
  AllConclude hyps (more_derivations d ds) (p ∷ ps) = Concludes hyps d p × AllConclude hyps ds ps

-- a theorem's derivation concludes its conclusion from its hypotheses
abbrev pub IsKept : Theorem → Type 0
IsKept t = Concludes t.hypotheses t.derivation t.conclusion
