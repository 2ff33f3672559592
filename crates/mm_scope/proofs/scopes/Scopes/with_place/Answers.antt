use Rattle.std.proofs.Common.{rules, ◌≡◌, ap, ◌∙◌, List}
use Rattle.std.specs.Prelude.{slice_get, Some}
use Rattle.std.proofs.lemmas.Result.{IfOk-weaker}
use Rattle.mm_frame.specs.Numbered.{NumberedHypothesis}
use Rattle.mm_frame.specs.PlainFrames.{plain_hypothesis}
use Rattle.mm_frame.specs.HypothesesView.{hypotheses_in}
use Rattle.mm_frame.specs.PlacedHypotheses.{Placed}
use Rattle.mm_frame.specs.PlacedOrder.{find_placed, placed_at}
use Rattle.mm_frame.proofs.PlacedLists.{find-placed}
use Rattle.mm_scope.proofs.MandatoryTrees.{taken-one}
use Rattle.mm_scope.proofs.scopes.Scopes.with_place.Goals as goal

pub returns : goal.returns
returns c =
    let hs = hypotheses_in c.args.self.now.hyps in
    let h = plain_hypothesis c.in-Some.hyp.now in
    let there : slice_get hs c.args.place ≡ Some h = search rules in
    let same : plain_hypothesis c.in_ok-share-in-Some.field-0 ≡ h = search rules in
    IfOk-weaker c.with.result _ _
    (λ t is i.
    ap (λ (ps : List Placed). find_placed ps i)
    (is ∙ ap (λ (x : NumberedHypothesis). placed_at c.args.place x c.args.tree.value) same)
    ∙ find-placed c.args.place i h c.args.tree.value
    ∙ taken-one hs c.args.place h (find_placed c.args.tree.value i) i there)
    c.with.ensures
