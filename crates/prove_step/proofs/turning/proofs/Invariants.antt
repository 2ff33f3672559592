use Rattle.std.proofs.Common.{take}
use Rattle.std.specs.List.{AllZip}
use Rattle.prove_step.specs.Turning.{IsProofFor}
use Rattle.prove_step.proofs.turning.proofs.Given as goal

abbrev pub invariant-loop-hypothesis : goal.invariant-loop-hypothesis
invariant-loop-hypothesis l =
    AllZip (IsProofFor l.e l.step) (take l.hypothesis-index l.hypotheses) l.proofs.items
