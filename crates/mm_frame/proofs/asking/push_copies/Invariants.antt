use Rattle.std.proofs.Common.{◌≡◌, ◌++◌, drop}
use Rattle.mm_frame.specs.PlainFrames.{groups_of}
use Rattle.mm_frame.proofs.asking.push_copies.Given as goal

abbrev pub invariant-loop-group : goal.invariant-loop-group
invariant-loop-group l = groups_of l.to.items ++ groups_of (drop l.group-index l.groups)
    ≡ groups_of l.initial.to.items ++ groups_of l.groups
