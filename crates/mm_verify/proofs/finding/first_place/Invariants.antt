use Rattle.std.specs.Prelude.{◌≡◌, drop}
use Rattle.std.specs.List.{position_from}
use Rattle.mm_frame.specs.PlainFrames.{plain_hypotheses, types_number}
use Rattle.mm_verify.specs.Places.{place_of}
use Rattle.mm_verify.proofs.finding.first_place.Given as goal

abbrev pub invariant-loop-i : goal.invariant-loop-i
invariant-loop-i l = position_from (types_number l.symbol) l.i (drop l.i (plain_hypotheses l.hyps))
    ≡ place_of (plain_hypotheses l.hyps) l.symbol
