use Rattle.prove_term.proofs.ResultLaws.{if_ok}
use Rattle.prove_term.proofs.OpenAxiomLaws.{apart_bound, apart_raised}
use Rattle.prove_term.proofs.context.Cx.apart_from.Goals as goal

pub stated_from-requires-clause-bound : goal.stated_from-requires-clause-bound
stated_from-requires-clause-bound c =
    apart_bound c.difference_image.new.self c.args.first.0 c.args.second.0 c.in_ok-image.image
    c.in_ok-image.ensures.says

pub returns-clause-says : goal.returns-clause-says
returns-clause-says c =
    if_ok c.stated_from.result
    (λ t says. apart_raised c.difference_image.new.self c.stated_from.new.self c.args.first.0
    c.args.second.0 c.args.k
    c.in_ok-image.image t.conclusion c.stated_from.ensures.grown c.in_ok-image.ensures.says says)
    c.stated_from.ensures.says
