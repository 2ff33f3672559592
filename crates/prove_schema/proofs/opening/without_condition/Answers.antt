use Rattle.std.proofs.Common.{sym, ◌∙◌}
use Rattle.prove_schema.proofs.ResultLaws.{if_ok}
use Rattle.prove_schema.proofs.OpeningLaws.{following_says, following_stays}
use Rattle.prove_schema.proofs.opening.without_condition.Goals as goal

pub returns-clause-says : goal.returns-clause-says
returns-clause-says c =
    if_ok c.mp.result
    (λ t is. following_says c.args.conditional.now.conclusion c.sides.result.0.now
    c.sides.result.1.now t.conclusion (sym c.conclusion.ensures ∙ c.sides.ensures) is)
    c.mp.ensures.conclusion

pub returns-clause-stays : goal.returns-clause-stays
returns-clause-stays c =
    if_ok c.mp.result
    (λ t stays. following_stays c.args.conditional.now c.in_ok-held.held t c.sides.result.0.now
    c.sides.result.1.now (sym c.conclusion.ensures ∙ c.sides.ensures) c.in_ok-held.ensures.stays
    stays)
    c.mp.ensures.stays
