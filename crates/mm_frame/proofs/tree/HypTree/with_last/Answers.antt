use Rattle.std.proofs.Common.{◌≡◌, ◌++◌, ◌∷◌, [], List, ap, sym, ◌∙◌, rules}
use Rattle.std.proofs.lemmas.Result.{IfOk-weaker}
use Rattle.mm_frame.specs.PlainFrames.{plain_hypothesis}
use Rattle.mm_frame.specs.PlacedHypotheses.{Placed}
use Rattle.mm_frame.proofs.PlacedLists.{placed-back, ahead-last}
use Rattle.mm_frame.proofs.tree.HypTree.with_last.Goals as goal

pub join-requires : goal.join-requires
join-requires c =
    let h = plain_hypothesis c.args.hyp in
    let leaf : c.in_ok-leaf.leaf.value ≡ (c.args.place, h) ∷ [] = search rules in
    let this : c.in_ok-clone.field-0.value ≡ c.args.this.now.value = search rules in
    rw (this, leaf) (ahead-last c.args.place h c.args.this.now.value c.requires)

pub returns : goal.returns
returns c =
    let h = plain_hypothesis c.args.hyp in
    let leaf : c.in_ok-leaf.leaf.value ≡ (c.args.place, h) ∷ [] = search rules in
    let this : c.in_ok-clone.field-0.value ≡ c.args.this.now.value = search rules in
    IfOk-weaker c.join.result _ _
    (λ t is. is ∙ ap (λ (ps : List Placed). c.in_ok-clone.field-0.value ++ ps) leaf
    ∙ ap (λ (ps : List Placed). ps ++ (c.args.place, h) ∷ []) this
    ∙ sym (placed-back c.args.place h c.args.this.now.value c.requires))
    c.join.ensures
