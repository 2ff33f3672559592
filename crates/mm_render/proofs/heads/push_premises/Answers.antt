use Rattle.std.proofs.Common.{List, ℕ, ◌≡◌, ◌+◌, ◌++◌, ◌∷◌, [], take, length, ap, sym, ◌∙◌, arith}
use Rattle.std.proofs.lemmas.List.{take_more, length-take-le}
use Rattle.ml_pat.specs.Patterns.{Pattern}
use Rattle.mm_claims.specs.Blocks.{premise_statements}
use Rattle.mm_render.proofs.HeadTexts.{more_written, premise_statements-push}
use Rattle.mm_render.proofs.heads.push_premises.Goals as goal

pub loop-no-preserved : goal.loop-no-preserved
loop-no-preserved c =
    let before : List Pattern = take c.loop-no.no c.args.hypotheses.now in
    let p : Pattern = c.index-hypotheses-no.result in
    let next : take (c.loop-no.no + 1) c.args.hypotheses.now ≡ before ++ p ∷ [] =
    take_more c.args.hypotheses.now c.loop-no.no p c.loop-no-test.true
    ∙ ap (λ (q : Pattern). before ++ q ∷ []) (sym c.index-hypotheses-no.is) in
    let at : 0 + length before ≡ c.loop-no.no =
    (let e : length before ≡ c.loop-no.no =
    length-take-le c.loop-no.no c.args.hypotheses.now
    (omega (arith, c.loop-no-test.true)) in
    omega (arith, e)) in
    more_written c.args.to.now.items c.loop-no.to.items c.push_premise.new.to.items
    (premise_statements c.args.names.now c.args.serial 0 before)
    (premise_statements c.args.names.now c.args.serial c.loop-no.no (p ∷ [])) _
    c.loop-no.invariant c.in_ok-push_premise.ensures
    (ap (premise_statements c.args.names.now c.args.serial 0) next
    ∙ premise_statements-push c.args.names.now c.args.serial 0 before p
    ∙ ap (λ (i : ℕ). premise_statements c.args.names.now c.args.serial 0 before
    ++ premise_statements c.args.names.now c.args.serial i (p ∷ [])) at)
