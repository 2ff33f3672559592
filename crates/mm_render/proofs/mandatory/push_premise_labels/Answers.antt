use Rattle.std.proofs.Common.{List, ℕ, ◌≡◌, ◌+◌, ◌++◌, ◌∷◌, [], take, length, refl, ap, sym, ◌∙◌}
use Rattle.std.proofs.Common.{arith}
use Rattle.std.proofs.lemmas.List.{take_more, length-take-le}
use Rattle.ml_pat.specs.Patterns.{Pattern}
use Rattle.mm_proof.specs.Labels.{premise_label}
use Rattle.mm_proof.specs.declared.words.Label.TheVariants.{Premise}
use Rattle.mm_claims.specs.PremiseLabels.{premise_labels}
use Rattle.mm_render.proofs.MandatoryTexts.{label_added, premise_labels-push}
use Rattle.mm_render.proofs.mandatory.push_premise_labels.Goals as goal

pub loop-no-preserved : goal.loop-no-preserved
loop-no-preserved c =
    let all : List Pattern = c.args.hypotheses.now in
    let before : List Pattern = take c.loop-no.no c.args.hypotheses.now in
    let p : Pattern = c.index-hypotheses-no.result in
    let next : take (c.loop-no.no + 1) c.args.hypotheses.now ≡ before ++ p ∷ [] =
    take_more all c.loop-no.no p c.loop-no-test.true
    ∙ ap (λ (q : Pattern). before ++ q ∷ []) (sym c.index-hypotheses-no.is) in
    let at : 0 + length before ≡ c.loop-no.no =
    (let e : length before ≡ c.loop-no.no =
    length-take-le c.loop-no.no all (omega (arith, c.loop-no-test.true)) in
    omega (arith, e)) in
    label_added (Premise c.loop-no.no) (λ k. premise_label k c.loop-no.no)
    (λ k. premise_labels k 0 before) (λ k. premise_labels k 0 (take (c.loop-no.no + 1) all))
    c.args.labels.now.items c.loop-no.labels.items c.push.new.self.items c.loop-no.invariant
    (λ k. refl) c.in_ok-push.ensures.items
    (λ k. ap (premise_labels k 0) next ∙ premise_labels-push k 0 before p
    ∙ ap (λ (i : ℕ). premise_labels k 0 before ++ premise_label k i ∷ []) at)
