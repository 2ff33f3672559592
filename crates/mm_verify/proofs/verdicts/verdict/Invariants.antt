use Rattle.std.specs.Prelude.{◌-◌, length}
use Rattle.mm_verify.proofs.VerdictLaws.{IsAt}
use Rattle.mm_verify.proofs.verdicts.verdict.Given as goal

abbrev pub invariant-loop-room : goal.invariant-loop-room
invariant-loop-room l = IsAt l.bytes l.reader l.checker l.report

abbrev pub decreases-loop-room : goal.decreases-loop-room
decreases-loop-room l = length l.bytes - l.reader.at
