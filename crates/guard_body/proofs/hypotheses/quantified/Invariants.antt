use Rattle.std.proofs.Common.{◌≡◌, ◌-◌}
use Rattle.guard_body.proofs.CountedDown.{down_to}
use Rattle.guard_body.proofs.hypotheses.quantified.Given as goal

abbrev pub invariant-loop-i : goal.invariant-loop-i
invariant-loop-i l = l.variables.items ≡ down_to l.first (l.fn.count - l.i) l.i
