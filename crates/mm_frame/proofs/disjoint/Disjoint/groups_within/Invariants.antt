use Rattle.std.proofs.Common.{◌≡◌, ℕ, drop}
use Rattle.std.specs.Prelude.{◌||◌}
use Rattle.std.specs.List.{list_any}
use Rattle.mm_frame.specs.PlainFrames.{in_groups, groups_of}
use Rattle.mm_frame.specs.DisjointView.{groups_in}
use Rattle.mm_frame.specs.Listed.{shares}
use Rattle.mm_frame.proofs.disjoint.Disjoint.groups_within.Given as goal

abbrev pub invariant-loop-place : goal.invariant-loop-place
invariant-loop-place l = (a b : ℕ)
    → (in_groups (groups_of l.groups.items) a b
    || list_any (shares (groups_in l.self) l.numbers a b)
    (drop l.place-index l.place-items))
    ≡ list_any (shares (groups_in l.self) l.numbers a b) l.place-items
