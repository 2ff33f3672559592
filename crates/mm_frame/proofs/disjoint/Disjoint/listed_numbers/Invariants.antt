use Rattle.std.proofs.Common.{◌≡◌, ◌++◌, drop}
use Rattle.std.specs.Prelude.{filter}
use Rattle.mm_frame.specs.PlainFrames.{has_number}
use Rattle.mm_frame.specs.DisjointView.{groups_in}
use Rattle.mm_frame.specs.Listed.{group_places}
use Rattle.mm_frame.proofs.disjoint.Disjoint.listed_numbers.Given as goal

abbrev pub invariant-loop-n : goal.invariant-loop-n
invariant-loop-n l = l.kept.items
    ++ filter (λ n. has_number (group_places (groups_in l.self) n) l.place)
    (drop l.n-index l.numbers)
    ≡ filter (λ n. has_number (group_places (groups_in l.self) n) l.place) l.numbers
