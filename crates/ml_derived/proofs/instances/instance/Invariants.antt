use Rattle.ml_derived.proofs.InstanceSteps.{IsPresent}
use Rattle.ml_derived.proofs.instances.instance.Given as goal

abbrev pub invariant-loop-fact : goal.invariant-loop-fact
invariant-loop-fact l = IsPresent l.initial.sentence l.facts l.fact-index l.sentence
