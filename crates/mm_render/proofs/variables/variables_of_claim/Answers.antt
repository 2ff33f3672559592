use Rattle.std.proofs.Common.{arith, ◌≡◌, ◌+◌, [], ◌∷◌, ◌++◌, List, take, sym, subst, ap, ◌∙◌}
use Rattle.std.proofs.Common.{flat_map}
use Rattle.std.proofs.lemmas.List.{take_all, take_more}
use Rattle.ml_pat.specs.Patterns.{Pattern}
use Rattle.mm_claims.specs.ClaimVariables.{claim_variables, variables_in}
use Rattle.mm_claims.specs.AddedVariables.{added}
use Rattle.mm_render.specs.ListedVariables.{listed}
use Rattle.mm_render.specs.VariablesView.{HaveNumbers}
use Rattle.mm_render.proofs.StackedVariables.{item_added, are_numbered}
use Rattle.mm_render.proofs.variables.variables_of_claim.Goals as goal

pub loop-hypothesis-preserved : goal.loop-hypothesis-preserved
loop-hypothesis-preserved c =
    let next : take (c.loop-hypothesis.hypothesis-index + 1) c.args.hypotheses.now ≡ take
    c.loop-hypothesis.hypothesis-index c.args.hypotheses.now ++ c.hypothesis-item.result ∷ [] =
    take_more c.args.hypotheses.now c.loop-hypothesis.hypothesis-index c.hypothesis-item.result
    c.loop-hypothesis-test.true
    ∙ ap (λ (p : Pattern).
    take c.loop-hypothesis.hypothesis-index c.args.hypotheses.now ++ p ∷ [])
    (sym c.hypothesis-item.is) in
    item_added variables_in (c.args.conclusion.now
    ∷ take (c.loop-hypothesis.hypothesis-index + 1) c.args.hypotheses.now)
    (c.args.conclusion.now ∷ take c.loop-hypothesis.hypothesis-index c.args.hypotheses.now)
    c.hypothesis-item.result
    [] (listed c.loop-hypothesis.list) (listed c.add_all-in-loop-hypothesis.new.self)
    (ap (λ (ps : List Pattern). c.args.conclusion.now ∷ ps) next) c.loop-hypothesis.invariant
    c.in_ok-add_all-2.ensures

pub returns-clause-numbered : goal.returns-clause-numbered
returns-clause-numbered c =
    let all : take c.loop-hypothesis.hypothesis-index c.args.hypotheses.now ≡
    c.args.hypotheses.now =
    take_all c.loop-hypothesis.hypothesis-index c.args.hypotheses.now
    (omega (arith, c.loop-hypothesis-test.false)) in
    are_numbered (claim_variables c.args.hypotheses.now c.args.conclusion.now)
    (subst HaveNumbers (c.loop-hypothesis.invariant
    ∙ ap (λ (ps : List Pattern).
    added [] (variables_in c.args.conclusion.now ++ flat_map variables_in ps)) all)
    c.loop-hypothesis.list.numbered)
