use Rattle.std.proofs.Common.{◌≡◌, ℕ, ◌+◌, ◌-◌, vec_len}
use Rattle.mm_frame.specs.CountsView.{times_counted}
use Rattle.mm_frame.proofs.counts.Counts.reach.Given as goal

abbrev pub invariant-loop-self : goal.invariant-loop-self
invariant-loop-self l = (n : ℕ) → times_counted l.self n ≡ times_counted l.initial.self n

abbrev pub decreases-loop-self : goal.decreases-loop-self
decreases-loop-self l = l.at + 1 - vec_len l.self.counts
