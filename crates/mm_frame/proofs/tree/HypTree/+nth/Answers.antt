use Rattle.std.proofs.Common.{rules, arith, ◌≡◌, ◌<◌, ◌≤◌, ◌+◌, ◌-◌, ◌++◌, length, ap, sym, ◌∙◌}
use Rattle.std.proofs.Common.{List}
use Rattle.std.specs.Prelude.{slice_get}
use Rattle.mm_frame.specs.PlacedHypotheses.{Placed, hypotheses_placed}
use Rattle.mm_frame.specs.TreeView.{placed_in}
use Rattle.mm_frame.proofs.PlacedLists.{nth-low, nth-high}
use Rattle.mm_frame.proofs.tree.HypTree.+nth.Goals as goal

pub returns-then-number-before : goal.returns-then-number-before
returns-then-number-before t c =
    let low = c.in-Fork.low.value in
    let high = c.in-Fork.high.value in
    let whole : c.args.self.now ≡ low ++ high = sym c.self.view_is ∙ ap placed_in c.in-Fork.is in
    let within : c.args.number < length low = search rules in
    c.nth.ensures
    ∙ ap (λ (ps : List Placed). slice_get (hypotheses_placed ps) c.args.number)
    c.deref-then-number-before.ensures
    ∙
    sym (ap (λ (ps : List Placed). slice_get (hypotheses_placed ps)
    c.args.number) whole ∙ nth-low low high c.args.number within)

pub returns-else-number-before : goal.returns-else-number-before
returns-else-number-before t c =
    let low = c.in-Fork.low.value in
    let high = c.in-Fork.high.value in
    let n = c.args.number in
    let m = n - c.len-before.result in
    let whole : c.args.self.now ≡ low ++ high = sym c.self.view_is ∙ ap placed_in c.in-Fork.is in
    let size : c.len-before.result ≡ length low = search rules in
    let past : c.len-before.result ≤ n = search rules in
    c.nth-else-number-before.ensures
    ∙ ap (λ (ps : List Placed). slice_get (hypotheses_placed ps) m)
    c.deref-else-number-before.ensures
    ∙
    sym (ap (λ (ps : List Placed). slice_get (hypotheses_placed ps)
    n) whole ∙ nth-high low high n m (omega (arith, size, past)))
