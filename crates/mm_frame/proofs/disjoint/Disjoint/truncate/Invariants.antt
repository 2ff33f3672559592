use Rattle.std.proofs.Common.{◌≡◌, length, take}
use Rattle.mm_frame.specs.DisjointView.{groups_in}
use Rattle.mm_frame.proofs.disjoint.Disjoint.truncate.Given as goal

abbrev pub invariant-loop-self : goal.invariant-loop-self
invariant-loop-self l = take l.count (groups_in l.self) ≡ take l.count (groups_in l.initial.self)

abbrev pub decreases-loop-self : goal.decreases-loop-self
decreases-loop-self l = length (groups_in l.self)
