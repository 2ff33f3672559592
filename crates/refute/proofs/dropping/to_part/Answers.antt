use Rattle.prove_term.proofs.ResultLaws.{if_ok}
use Rattle.refute.proofs.dropping.to_part.Goals as goal

pub returns-else-first-clause-stays : goal.returns-else-first-clause-stays
returns-else-first-clause-stays c =
    if_ok c.and_1.result (λ t stays s hp ht. stays s (hp.1.0, (hp.0, tt)) ht)
    c.and_1.ensures.stays
