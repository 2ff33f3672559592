use Rattle.std.proofs.Common.{◌≡◌, ◌++◌, ap, sym, subst, ◌∙◌}
use Rattle.mm_frame.specs.TreeView.{placed_in}
use Rattle.mm_frame.specs.TreeOrder.{IsSplit}
use Rattle.mm_frame.proofs.PlacedLists.{first-fork}
use Rattle.mm_frame.proofs.tree.HypTree.+first.Goals as goal

pub returns-in-Fork-clause-from : goal.returns-in-Fork-clause-from
returns-in-Fork-clause-from t c =
    let f = c.first.result in
    let low = c.in-Fork.low.value in
    let high = c.in-Fork.field-2.value in
    let whole : c.args.self.now ≡ low ++ high = sym c.self.view_is ∙ ap placed_in c.in-Fork.is in
    let parts = subst IsSplit c.in-Fork.is c.self.invariant.0 in
    rw whole (first-fork c.in-Fork.field-0 f low high parts.0 parts.1
    (rw c.deref.ensures at c.first.ensures.from) (rw c.deref.ensures at c.first.ensures.one))
