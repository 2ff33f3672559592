use Rattle.std.proofs.Common.{◌≡◌, length, take}
use Rattle.mm_frame.specs.HypothesesView.{hypotheses_in}
use Rattle.mm_frame.proofs.hypotheses.Hypotheses.truncate.Given as goal

abbrev pub invariant-loop-self : goal.invariant-loop-self
invariant-loop-self l =
    take l.count (hypotheses_in l.self) ≡ take l.count (hypotheses_in l.initial.self)

abbrev pub decreases-loop-self : goal.decreases-loop-self
decreases-loop-self l = length (hypotheses_in l.self)
