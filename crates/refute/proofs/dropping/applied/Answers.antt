use Rattle.std.proofs.Common.{sym, ◌∙◌}
use Rattle.prove_term.proofs.ResultLaws.{if_ok}
use Rattle.refute.proofs.ImplicationShapes.{applied_is}
use Rattle.refute.proofs.dropping.applied.Goals as goal

pub returns-clause-conclusion : goal.returns-clause-conclusion
returns-clause-conclusion c =
    if_ok c.chain.result
    (λ t chained. applied_is c.args.function.now.conclusion c.args.argument.now.conclusion
    c.sides.result.0.now c.sides.result.1.now c.sides-2.result.0.now c.sides-2.result.1.now
    c.in_ok-first.first.conclusion c.in_ok-second.second.conclusion t.conclusion
    (sym c.conclusion.ensures ∙ c.sides.ensures) (sym c.conclusion-2.ensures ∙ c.sides-2.ensures)
    c.in_ok-first.ensures.conclusion c.in_ok-second.ensures.conclusion chained)
    c.chain.ensures.conclusion
