use Rattle.std.proofs.Common.{◌≡◌}
use Rattle.mm_frame.proofs.names.Names.put_all.Given as goal

abbrev pub invariant-loop-i : goal.invariant-loop-i
invariant-loop-i l = l.self.ordered ≡ l.fn.self.ordered
