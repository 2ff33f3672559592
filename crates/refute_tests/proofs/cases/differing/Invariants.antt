use Rattle.std.proofs.Common.{◌≡◌}
use Rattle.proof_writer.specs.Writing.{HasWritten}
use Rattle.refute_tests.proofs.cases.differing.Given as goal

abbrev pub invariant-loop-number : goal.invariant-loop-number
invariant-loop-number l = (l.cx.program ≡ l.program) × HasWritten l.writer l.cx
