use Rattle.prove_term.proofs.ResultLaws.{if_ok}
use Rattle.prove_open.proofs.ScopeLaws.{stays_no_hypotheses}
use Rattle.prove_open.proofs.freedom.injective_under.Goals as goal

pub injective-requires-clause-ready : goal.injective-requires-clause-ready
injective-requires-clause-ready c = record {
  well_sorted = c.requires.well_sorted;
  given = c.requires.given;
}

pub returns-clause-says : goal.returns-clause-says
returns-clause-says c = if_ok c.injective.result (λ t is. is.says) c.injective.ensures.is

pub returns-clause-no_hypotheses : goal.returns-clause-no_hypotheses
returns-clause-no_hypotheses c =
    if_ok c.injective.result (λ t is. stays_no_hypotheses c.injective.new.cx t is.stays)
    c.injective.ensures.is

pub returns-clause-stays : goal.returns-clause-stays
returns-clause-stays c = if_ok c.injective.result (λ t is. is.stays) c.injective.ensures.is
