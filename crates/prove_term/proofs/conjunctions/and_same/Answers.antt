use Rattle.prove_term.proofs.ResultLaws.{if_ok}
use Rattle.prove_term.proofs.conjunctions.and_same.Goals as goal

pub returns-clause-stays : goal.returns-clause-stays
returns-clause-stays c =
    if_ok c.eq_in.result
    (λ t stays s hp ht.
    let same = c.in_ok-same.ensures.stays s hp tt in
    stays s tt (
      c.in_ok-one.ensures.stays s (hp.0, (hp.0, tt)) tt,
      (c.in_ok-two.ensures.stays s tt (same, (same, tt)), tt),
    ))
    c.eq_in.ensures.stays
