use Rattle.ml_derived.proofs.OpenSteps.{IsPresentUnder}
use Rattle.ml_derived.proofs.instances.instance_open.Given as goal

abbrev pub invariant-loop-fact : goal.invariant-loop-fact
invariant-loop-fact l = IsPresentUnder l.h l.sentence l.facts l.fact-index l.present
