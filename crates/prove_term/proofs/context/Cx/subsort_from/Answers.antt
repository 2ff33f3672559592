use Rattle.prove_term.proofs.ResultLaws.{if_ok}
use Rattle.prove_term.proofs.OpenAxiomLaws.{subsort_bound, subsort_raised}
use Rattle.prove_term.proofs.context.Cx.subsort_from.Goals as goal

pub stated_from-requires-clause-bound : goal.stated_from-requires-clause-bound
stated_from-requires-clause-bound c =
    subsort_bound c.subsort_image.new.self c.args.from.0 c.args.to.0 c.in_ok-image.image
    c.in_ok-image.ensures.says

pub returns-clause-says : goal.returns-clause-says
returns-clause-says c =
    if_ok c.stated_from.result
    (λ t says. subsort_raised c.subsort_image.new.self c.stated_from.new.self c.args.from.0
    c.args.to.0 c.args.k
    c.in_ok-image.image t.conclusion c.stated_from.ensures.grown c.in_ok-image.ensures.says says)
    c.stated_from.ensures.says
