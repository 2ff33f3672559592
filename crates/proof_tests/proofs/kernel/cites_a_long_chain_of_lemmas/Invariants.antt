use Rattle.std.proofs.Common.{◌≡◌, []}
use Rattle.ml_pat.specs.Patterns.{top}
use Rattle.proof_tests.proofs.kernel.cites_a_long_chain_of_lemmas.Given as goal

abbrev pub invariant-loop : goal.invariant-loop
invariant-loop l = (l.thm.hypotheses ≡ []) × (l.thm.conclusion ≡ top)
