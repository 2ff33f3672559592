use Rattle.prove_term.proofs.ResultLaws.{if_ok}
use Rattle.prove_term.proofs.OpenAxiomLaws.{total_bound, total_raised}
use Rattle.prove_term.proofs.context.Cx.total_from.Goals as goal

pub stated_from-requires-clause-bound : goal.stated_from-requires-clause-bound
stated_from-requires-clause-bound c =
    total_bound c.totality_image.new.self c.args.symbol.0 c.in_ok-image.image
    c.in_ok-image.ensures.says

pub returns-clause-says : goal.returns-clause-says
returns-clause-says c =
    if_ok c.stated_from.result
    (λ t says. total_raised c.totality_image.new.self c.stated_from.new.self c.args.symbol.0
    c.args.k
    c.in_ok-image.image t.conclusion c.stated_from.ensures.grown c.in_ok-image.ensures.says says)
    c.stated_from.ensures.says
