use Rattle.ml_pat.specs.Patterns.{bot, imp}
use Rattle.ml_derived.specs.Scopes.{IsOver, IsWithin}
use Rattle.ml_derived.proofs.StayingLaws.{if_ok, concluded}
use Rattle.ml_derived.proofs.hypothetical.back.Goals as goal

pub returns-clause-stays : goal.returns-clause-stays
returns-clause-stays c =
    if_ok c.then.result
    (λ t stays s hp ht.
    let parts : IsOver s (imp c.args.h.now (imp (imp c.args.e.now bot) (imp c.args.a.now bot))) =
    concluded s c.args.thm.now (imp c.args.h.now (imp (imp c.args.e.now bot) (imp c.args.a.now bot))) ht.0 c.requires in
    let w-swapped : IsWithin s c.in_ok-swapped.swapped =
    c.in_ok-swapped.ensures.stays s tt (ht.0, tt) in
    let w-rule : IsWithin s c.in_ok-rule.rule =
    c.in_ok-rule.ensures.stays s (parts.1.0.0, tt) tt in
    stays s tt (w-swapped, (w-rule, tt)))
    c.then.ensures.stays
