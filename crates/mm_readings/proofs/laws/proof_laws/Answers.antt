use Rattle.std.specs.Prelude.{Contains}
use Rattle.mm_readings.proofs.Applied.{fit_after}
use Rattle.mm_readings.proofs.ProofTrees.{proved_holds}
use Rattle.mm_readings.proofs.TheoremFrames.{theorem_sound}
use Rattle.mm_readings.proofs.laws.proof_laws.Goals as goal

pub returns : goal.returns
returns c = record {
  substitution = λ axioms. fit_after (Contains axioms);
  proved = λ axioms. proved_holds (Contains axioms);
  theorem = λ axioms. theorem_sound (Contains axioms);
}
