use Rattle.std.proofs.Common.{◌≡◌, ℕ, take}
use Rattle.std.specs.Prelude.{if◌then◌else◌}
use Rattle.mm_frame.specs.PlainFrames.{has_number}
use Rattle.mm_frame.specs.Listed.{list_of, without_place}
use Rattle.mm_frame.proofs.disjoint.unlist_all.Given as goal

abbrev pub invariant-loop-n : goal.invariant-loop-n
invariant-loop-n l = (n : ℕ)
    → list_of l.lists.items n
    ≡ (if has_number (take l.n-index l.group) n
    then without_place l.place (list_of l.initial.lists.items n)
    else list_of l.initial.lists.items n)
