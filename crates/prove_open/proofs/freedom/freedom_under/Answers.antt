use Rattle.prove_term.proofs.ResultLaws.{if_ok}
use Rattle.prove_open.proofs.ScopeLaws.{stays_no_hypotheses}
use Rattle.prove_open.proofs.freedom.freedom_under.Goals as goal

pub freed-requires-clause-ready : goal.freed-requires-clause-ready
freed-requires-clause-ready c = record {
  well_sorted = c.requires.well_sorted;
  given = c.requires.given;
}

pub returns-clause-says : goal.returns-clause-says
returns-clause-says c = if_ok c.freed.result (λ t is. is.says) c.freed.ensures.is

pub returns-clause-no_hypotheses : goal.returns-clause-no_hypotheses
returns-clause-no_hypotheses c =
    if_ok c.freed.result (λ t is. stays_no_hypotheses c.freed.new.cx t is.stays)
    c.freed.ensures.is

pub returns-clause-stays : goal.returns-clause-stays
returns-clause-stays c = if_ok c.freed.result (λ t is. is.stays) c.freed.ensures.is
