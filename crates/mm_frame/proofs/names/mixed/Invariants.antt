use Rattle.std.proofs.Common.{length}
use Rattle.mm_frame.proofs.names.mixed.Given as goal

abbrev pub invariant-loop-rest : goal.invariant-loop-rest
invariant-loop-rest l = Unit {0}

abbrev pub decreases-loop-rest : goal.decreases-loop-rest
decreases-loop-rest l = length l.rest

abbrev pub invariant-loop-byte : goal.invariant-loop-byte
invariant-loop-byte l = Unit {0}
