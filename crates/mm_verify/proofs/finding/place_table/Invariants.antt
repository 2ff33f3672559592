use Rattle.std.specs.Prelude.{map, take}
use Rattle.mm_frame.specs.PlainFrames.{plain_hypothesis}
use Rattle.mm_verify.specs.Places.{IsTable}
use Rattle.mm_verify.proofs.finding.place_table.Given as goal

abbrev pub invariant-loop-i : goal.invariant-loop-i
invariant-loop-i l = IsTable l.places (take l.i (map plain_hypothesis l.fn.hyps))
