use Rattle.std.proofs.Common.{take}
use Rattle.std.specs.List.{AllZip}
use Rattle.prove_run.specs.ReachLemma.{ProvesHypothesis}
use Rattle.prove_run.proofs.further.proofs.Given as goal

abbrev pub invariant-loop-hypothesis : goal.invariant-loop-hypothesis
invariant-loop-hypothesis l =
    AllZip (ProvesHypothesis l.sofar l.step) (take l.hypothesis-index l.hypotheses) l.proofs.items
