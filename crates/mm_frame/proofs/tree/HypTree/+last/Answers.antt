use Rattle.std.proofs.Common.{◌≡◌, ◌++◌, ap, sym, subst, ◌∙◌}
use Rattle.mm_frame.specs.TreeView.{placed_in}
use Rattle.mm_frame.specs.TreeOrder.{IsSplit}
use Rattle.mm_frame.proofs.PlacedLists.{last-fork}
use Rattle.mm_frame.proofs.tree.HypTree.+last.Goals as goal

pub returns-in-Fork-clause-up_to : goal.returns-in-Fork-clause-up_to
returns-in-Fork-clause-up_to t c =
    let low = c.in-Fork.field-1.value in
    let high = c.in-Fork.high.value in
    let whole : c.args.self.now ≡ low ++ high = sym c.self.view_is ∙ ap placed_in c.in-Fork.is in
    let parts = subst IsSplit c.in-Fork.is c.self.invariant.0 in
    rw whole (last-fork c.in-Fork.field-0 c.last.result low high parts.0 parts.1
    (rw c.deref.ensures at c.last.ensures.up_to) (rw c.deref.ensures at c.last.ensures.one))
