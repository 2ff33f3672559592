use Rattle.mm_frame.proofs.PlacedLists.{ahead-less, up_to-below, from-weaker}
use Rattle.mm_frame.proofs.tree.HypTree.join.Goals as goal

pub split_between-split-requires : goal.split_between-split-requires
split_between-split-requires c =
    ahead-less _ _ c.args.low.value c.args.high.value c.requires
    (rw c.deref.ensures at c.last.ensures.one) (rw c.deref-2.ensures at c.first.ensures.one)

pub fork-requires-clause-below : goal.fork-requires-clause-below
fork-requires-clause-below c =
    up_to-below _ _ c.args.low.value c.split_between-split.ensures.after
    (rw c.deref.ensures at c.last.ensures.up_to)

pub fork-requires-clause-from : goal.fork-requires-clause-from
fork-requires-clause-from c =
    from-weaker _ _ c.args.high.value c.split_between-split.ensures.within
    (rw c.deref-2.ensures at c.first.ensures.from)
