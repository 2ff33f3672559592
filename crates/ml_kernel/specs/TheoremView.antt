-- The theorem that represents a `Thm` of the code.
use Rattle.ml_kernel.specs.Theorems.{Theorem}
use Rattle.ml_kernel.specs.declared.theorems.Thm.TheInside.{Inside}

abbrev pub theorem_of : Inside → Theorem
theorem_of a = record {
  hypotheses = a.hypotheses.items;
  conclusion = a.conclusion;
  derivation = a.derivation;
}
