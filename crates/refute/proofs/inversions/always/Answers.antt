use Rattle.prove_term.proofs.ResultLaws.{if_ok}
use Rattle.refute.proofs.inversions.always.Goals as goal

pub returns-clause-stays : goal.returns-clause-stays
returns-clause-stays c =
    if_ok c.lift.result
    (λ t stays s hp ht. stays s (hp.0, tt) (c.in_ok-top.ensures.stays s tt tt, tt))
    c.lift.ensures.stays
