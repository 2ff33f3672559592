use Rattle.ml_pat.specs.Patterns.{bot, imp, and}
use Rattle.ml_derived.specs.Scopes.{IsOver, IsWithin}
use Rattle.ml_derived.proofs.StayingLaws.{if_ok, concluded}
use Rattle.ml_derived.proofs.refuting.unequal.Goals as goal

pub returns-clause-stays : goal.returns-clause-stays
returns-clause-stays c =
    if_ok c.bot_to_not.result
    (λ t stays s hp ht.
    let parts : IsOver s (imp c.args.r.now (imp (and c.args.p.pattern.now c.args.t.now) bot)) =
    concluded s c.args.a.now (imp c.args.r.now (imp (and c.args.p.pattern.now c.args.t.now) bot)) ht.0 c.requires.a in
    let w-outside : IsWithin s c.in_ok-outside.outside =
    c.in_ok-outside.ensures.stays s tt (ht.0, tt) in
    let w-moved : IsWithin s c.in_ok-moved.moved =
    c.in_ok-moved.ensures.stays s (parts.1.0.1, (hp.0, tt)) (ht.1.0, tt) in
    let w-denied : IsWithin s c.in_ok-denied.denied =
    c.in_ok-denied.ensures.stays s tt (w-moved, (w-outside, tt)) in
    stays s tt (w-denied, tt))
    c.bot_to_not.ensures.stays
