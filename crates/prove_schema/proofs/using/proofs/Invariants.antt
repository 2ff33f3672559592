use Rattle.std.proofs.Common.{take}
use Rattle.prove_schema.specs.Giving.{AreGiven}
use Rattle.prove_schema.proofs.using.proofs.Given as goal

abbrev pub invariant-loop-hypothesis : goal.invariant-loop-hypothesis
invariant-loop-hypothesis l =
    AreGiven (take l.hypothesis-index l.hypotheses) l.facts l.others l.proofs.items
