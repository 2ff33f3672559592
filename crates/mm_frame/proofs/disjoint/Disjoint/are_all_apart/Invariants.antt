use Rattle.std.specs.Prelude.{◌≡◌, true, take}
use Rattle.std.specs.List.{list_all}
use Rattle.mm_frame.specs.DisjointView.{groups_in}
use Rattle.mm_frame.specs.Grouping.{is_apart_or_same}
use Rattle.mm_frame.proofs.disjoint.Disjoint.are_all_apart.Given as goal

abbrev pub invariant-loop-a : goal.invariant-loop-a
invariant-loop-a l =
    list_all (λ a. list_all (is_apart_or_same (groups_in l.self) a) l.group)
    (take l.a-index l.group) ≡ true
