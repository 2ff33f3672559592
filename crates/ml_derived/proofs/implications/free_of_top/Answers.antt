use Rattle.ml_derived.proofs.StayingLaws.{if_ok}
use Rattle.ml_derived.proofs.implications.free_of_top.Goals as goal

pub returns-clause-stays : goal.returns-clause-stays
returns-clause-stays c =
    if_ok c.free_of_condition.result
    (λ t stays s hp ht. stays s tt (ht.0, (c.in_ok-holds.ensures.stays s tt tt, tt)))
    c.free_of_condition.ensures.stays
