use Rattle.prove_term.proofs.ResultLaws.{if_ok}
use Rattle.refute.proofs.ImplicationShapes.{always_over}
use Rattle.refute.proofs.dropping.in_argument.Goals as goal

pub returns-clause-stays : goal.returns-clause-stays
returns-clause-stays c =
    if_ok c.mp.result
    (λ t stays s hp ht.
    let everything = c.in_ok-everything.ensures.stays s tt tt in
    stays s tt (
      everything,
      (
        c.in_ok-rule.ensures.stays s (hp.0, tt) (
          c.in_ok-lift.ensures.stays s (
            always_over s c.conclusion-always.result.now c.in_ok-everything.everything
                c.conclusion-always.ensures everything.conclusion,
            tt,
          ) ht,
          tt,
        ),
        tt,
      ),
    ))
    c.mp.ensures.stays
