use Rattle.std.proofs.Common.{◌≡◌, drop}
use Rattle.std.specs.List.{list_any}
use Rattle.mm_frame.specs.PlainFrames.{has_number}
use Rattle.mm_frame.proofs.disjoint.have_common.Given as goal

abbrev pub invariant-loop-place : goal.invariant-loop-place
invariant-loop-place l =
    list_any (has_number l.more) (drop l.place-index l.fewer) ≡ list_any (has_number l.more) l.fewer
