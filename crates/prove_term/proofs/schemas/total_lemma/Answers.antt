use Rattle.prove_term.specs.Assuming.{IsSome}
use Rattle.prove_term.proofs.ResultLaws.{if_ok, if_ok_two}
use Rattle.prove_term.proofs.AssumingLaws.{partly_is_some, total_from, total_stays}
use Rattle.prove_term.proofs.schemas.total_lemma.Goals as goal

pub one_element-requires-clause-some : goal.one_element-requires-clause-some
one_element-requires-clause-some c =
    partly_is_some c.args.count c.requires.0 c.requires.1 c.requires.2 c.in_ok-instance.instance
    c.requires.3.as_many
    (c.in_ok-instance.ensures.says c.requires.0 c.requires.1 c.requires.2 c.requires.3)

pub returns-clause-says : goal.returns-clause-says
returns-clause-says c =
    if_ok c.one_element.result
    (λ made one. total_from c.args.count c.args.totality c.in_ok-instance.instance made
    c.in_ok-instance.ensures.says one)
    c.one_element.ensures.one

pub returns-clause-stays : goal.returns-clause-stays
returns-clause-stays c =
    let some : IsSome c.in_ok-instance.instance.conclusion =
    partly_is_some c.args.count c.requires.0 c.requires.1 c.requires.2 c.in_ok-instance.instance
    c.requires.3.as_many
    (c.in_ok-instance.ensures.says c.requires.0 c.requires.1 c.requires.2 c.requires.3) in
    if_ok_two c.one_element.result
    (λ made one stays. total_stays c.args.totality c.in_ok-instance.instance made (one some).1
    c.in_ok-instance.ensures.stays stays)
    c.one_element.ensures.one c.one_element.ensures.stays
