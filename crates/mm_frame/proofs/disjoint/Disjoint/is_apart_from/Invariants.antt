use Rattle.std.specs.Prelude.{◌≡◌, true, take}
use Rattle.std.specs.List.{list_all}
use Rattle.mm_frame.specs.DisjointView.{groups_in}
use Rattle.mm_frame.specs.Grouping.{is_apart_or_same}
use Rattle.mm_frame.proofs.disjoint.Disjoint.is_apart_from.Given as goal

abbrev pub invariant-loop-b : goal.invariant-loop-b
invariant-loop-b l =
    list_all (is_apart_or_same (groups_in l.self) l.a) (take l.b-index l.others) ≡ true
