use Rattle.std.proofs.Common.{rules, ◌≡◌, ◌<◌, ◌++◌, length, arith, length-append}
use Rattle.mm_frame.proofs.PlacedLists.{ascending-append}
use Rattle.mm_frame.proofs.tree.HypTree.fork.Goals as goal

pub invariant_of-tree : goal.invariant_of-tree
invariant_of-tree c =
    let low = c.args.low.value in
    let high = c.args.high.value in
    let some : 0 < length low = search rules in
    let some' : 0 < length high = search rules in
    let count : c.in-Some.count ≡ length (low ++ high) = grind (arith, length-append) in (
      (c.requires.below, c.requires.from, some, some'),
      count,
      ascending-append c.args.split low high c.requires.below c.requires.from
          (rw c.deref.ensures at c.ascend.ensures) (rw c.deref-2.ensures at c.ascend-2.ensures),
    )
