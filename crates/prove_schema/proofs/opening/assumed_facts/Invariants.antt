use Rattle.std.proofs.Common.{◌≡◌, ◌++◌}
use Rattle.ml_kernel.specs.Theorems.{conclusions}
use Rattle.prove_schema.specs.Assumptions.{facts_of}
use Rattle.prove_schema.specs.Assumptions.{AreAssumptions}
use Rattle.prove_schema.proofs.opening.assumed_facts.Given as goal

abbrev pub invariant-loop-x : goal.invariant-loop-x
invariant-loop-x l =
    AreAssumptions l.facts.items
    × (conclusions l.facts.items ++ facts_of l.rest ≡ facts_of l.fn.sentence)
