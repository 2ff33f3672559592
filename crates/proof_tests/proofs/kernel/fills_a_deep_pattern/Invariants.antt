use Rattle.ml_kernel.specs.Lemmas.{IsMetaBelow}
use Rattle.proof_tests.proofs.kernel.fills_a_deep_pattern.Given as goal

abbrev pub invariant-loop : goal.invariant-loop
invariant-loop g l = IsMetaBelow 1 l.deep
