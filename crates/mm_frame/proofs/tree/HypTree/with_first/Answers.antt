use Rattle.std.proofs.Common.{◌≡◌, ◌++◌, ◌∷◌, [], List, ap, sym, ◌∙◌, rules, arith, ◌+◌}
use Rattle.std.proofs.lemmas.Result.{IfOk-weaker}
use Rattle.mm_frame.specs.PlainFrames.{plain_hypothesis}
use Rattle.mm_frame.specs.PlacedHypotheses.{Placed}
use Rattle.mm_frame.proofs.PlacedLists.{placed-front}
use Rattle.mm_frame.proofs.tree.HypTree.with_first.Goals as goal

pub returns : goal.returns
returns c =
    let h = plain_hypothesis c.args.hyp in
    let leaf : c.in_ok-leaf.leaf.value ≡ (c.args.place, h) ∷ [] = search rules in
    let this : c.in_ok-clone.field-0.value ≡ c.args.this.now.value = search rules in
    IfOk-weaker c.join.result _ _
    (λ t is. is ∙ ap (λ (ps : List Placed). ps ++ c.in_ok-clone.field-0.value) leaf
    ∙ ap (λ (ps : List Placed). (c.args.place, h) ∷ ps) this
    ∙
    sym (placed-front (c.args.place
    + 1) c.args.place h c.args.this.now.value c.requires (omega arith)))
    c.join.ensures
