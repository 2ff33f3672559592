use Rattle.std.proofs.Common.{subst}
use Rattle.ml_kernel.specs.Theorems.{Theorem, IsDerived}
use Rattle.ml_kernel.specs.TheoremView.{theorem_of}
use Rattle.ml_kernel.proofs.DerivationLaws.{Derives-Concludes}
use Rattle.ml_kernel.proofs.theorems.Thm.law.Goals as goal

pub returns : goal.returns
returns c =
    let t : Theorem = theorem_of c.self.inside in
    subst (λ (u : Theorem). IsDerived u) c.self.view_is
    (Derives-Concludes t.hypotheses t.derivation t.conclusion c.self.invariant)
