use Rattle.std.specs.Prelude.{◌≡◌, true, take}
use Rattle.std.specs.List.{list_all}
use Rattle.mm_frame.specs.DisjointView.{groups_in}
use Rattle.mm_frame.specs.PlainFrames.{has_number}
use Rattle.mm_frame.specs.Listed.{group_places}
use Rattle.mm_frame.proofs.disjoint.Disjoint.are_listed.Given as goal

abbrev pub invariant-loop-n : goal.invariant-loop-n
invariant-loop-n l =
    list_all (λ n. has_number (group_places (groups_in l.self) n) l.place)
    (take l.n-index l.variables) ≡ true
