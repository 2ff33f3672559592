use Rattle.std.proofs.Common.{◌≡◌, ℕ, drop}
use Rattle.std.specs.Prelude.{◌||◌}
use Rattle.std.specs.List.{list_any}
use Rattle.mm_frame.specs.PlainFrames.{in_groups, groups_of}
use Rattle.mm_frame.specs.DisjointView.{groups_in}
use Rattle.mm_frame.specs.Grouping.{is_pair_of}
use Rattle.mm_frame.proofs.disjoint.Disjoint.push_pairs.Given as goal

abbrev pub invariant-loop-other : goal.invariant-loop-other
invariant-loop-other l = (a b : ℕ)
    → (in_groups (groups_of l.groups.items) a b
    || list_any (is_pair_of (groups_in l.self) l.n a b) (drop l.other-index l.others))
    ≡ (in_groups (groups_of l.fn.groups.items) a b
    || list_any (is_pair_of (groups_in l.self) l.n a b) l.others)
