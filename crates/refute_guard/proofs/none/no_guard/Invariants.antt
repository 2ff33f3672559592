use Rattle.std.proofs.Common.{drop}
use Rattle.refute_guard.proofs.NoGuards.{DenyRest}
use Rattle.refute_guard.proofs.none.no_guard.Given as goal

abbrev pub invariant-loop-i : goal.invariant-loop-i
invariant-loop-i l = DenyRest (drop l.i l.denied) l.present
