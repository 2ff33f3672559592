use Rattle.std.proofs.Common.{◌≡◌, ℕ, drop}
use Rattle.std.specs.Prelude.{◌||◌}
use Rattle.mm_frame.specs.PlainFrames.{in_groups, groups_of}
use Rattle.mm_frame.specs.DisjointView.{groups_in}
use Rattle.mm_frame.specs.Grouping.{have_pair}
use Rattle.mm_frame.proofs.disjoint.Disjoint.pairs_within.Given as goal

abbrev pub invariant-loop-i : goal.invariant-loop-i
invariant-loop-i l = (a b : ℕ)
    → (in_groups (groups_of l.groups.items) a b
    || have_pair (groups_in l.self) (drop l.i l.numbers) a b)
    ≡ have_pair (groups_in l.self) l.numbers a b
