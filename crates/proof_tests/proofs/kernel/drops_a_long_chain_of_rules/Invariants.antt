use Rattle.std.proofs.Common.{◌≡◌}
use Rattle.ml_pat.specs.Patterns.{top}
use Rattle.proof_tests.proofs.kernel.drops_a_long_chain_of_rules.Given as goal

abbrev pub invariant-loop : goal.invariant-loop
invariant-loop g l = l.thm.conclusion ≡ top
