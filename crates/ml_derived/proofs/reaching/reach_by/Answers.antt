use Rattle.std.proofs.Common.{subst}
use Rattle.ml_pat.specs.Patterns.{imp, next}
use Rattle.ml_derived.specs.Scopes.{IsOver}
use Rattle.ml_derived.proofs.StayingLaws.{if_ok, concluded}
use Rattle.ml_derived.proofs.reaching.reach_by.Goals as goal

pub returns-clause-stays : goal.returns-clause-stays
returns-clause-stays c =
    if_ok c.chained-2.result
    (λ t stays s hp ht.
    let whole : IsOver s (imp c.args.b.now c.args.made.now) =
    concluded s c.args.step.now (imp c.args.b.now c.args.made.now) ht.0 c.requires.step in
    let made : IsOver s (next c.args.c.now) = subst (IsOver s) c.requires.made whole.1 in
    stays s tt (
      ht.0,
      (
        c.in_ok-on.ensures.stays s tt (
          c.in_ok-moved.ensures.stays s tt (c.in_ok-here.ensures.stays s (made, tt) tt, tt),
          (c.in_ok-closing.ensures.stays s (made, tt) tt, tt),
        ),
        tt,
      ),
    ))
    c.chained-2.ensures.stays
