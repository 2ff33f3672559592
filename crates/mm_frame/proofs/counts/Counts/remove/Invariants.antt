use Rattle.std.proofs.Common.{◌≡◌, ℕ, ◌-◌, take}
use Rattle.mm_frame.specs.Times.{times}
use Rattle.mm_frame.specs.CountsView.{times_counted}
use Rattle.mm_frame.proofs.counts.Counts.remove.Given as goal

abbrev pub invariant-loop-n : goal.invariant-loop-n
invariant-loop-n l = (n : ℕ)
    → times_counted l.self n ≡ times_counted l.initial.self n - times n (take l.n-index l.symbols)
