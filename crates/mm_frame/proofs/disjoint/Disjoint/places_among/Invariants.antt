use Rattle.std.proofs.Common.{◌≡◌, ◌++◌, drop}
use Rattle.std.specs.Prelude.{flat_map}
use Rattle.mm_frame.specs.DisjointView.{groups_in}
use Rattle.mm_frame.specs.Listed.{group_places}
use Rattle.mm_frame.proofs.disjoint.Disjoint.places_among.Given as goal

abbrev pub invariant-loop-n : goal.invariant-loop-n
invariant-loop-n l =
    l.places.items ++ flat_map (group_places (groups_in l.self)) (drop l.n-index l.numbers)
    ≡ flat_map (group_places (groups_in l.self)) l.numbers
