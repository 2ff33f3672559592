-- The derivation that represents a `Deriv` of the code, and the theorem that represents a `Lemma`.
use Rattle.ml_kernel.specs.Theorems.{Derivation, Theorem}
use Rattle.ml_kernel.specs.StepView.{derivation_of}
use Rattle.ml_kernel.specs.declared.derivations.Deriv.TheInside as tree
use Rattle.ml_kernel.specs.declared.derivations.Lemma.TheInside as lemma

abbrev pub whole_derivation : tree.Inside → Derivation
whole_derivation a = derivation_of a.node.value

abbrev pub lemma_theorem : lemma.Inside → Theorem
lemma_theorem a = record {
  hypotheses = a.hypotheses.items;
  conclusion = a.conclusion;
  derivation = a.erased.derivation;
}
