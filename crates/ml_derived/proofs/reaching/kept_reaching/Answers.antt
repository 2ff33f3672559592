use Rattle.std.proofs.Common.{subst}
use Rattle.ml_pat.specs.Patterns.{imp, ev}
use Rattle.ml_derived.specs.Scopes.{IsOver}
use Rattle.ml_derived.proofs.StayingLaws.{if_ok, concluded}
use Rattle.ml_derived.proofs.reaching.kept_reaching.Goals as goal

pub returns-clause-stays : goal.returns-clause-stays
returns-clause-stays c =
    if_ok c.ev_kt.result
    (λ t stays s hp ht.
    let whole : IsOver s (imp c.args.b.now c.args.end.now) =
    concluded s c.args.one.now (imp c.args.b.now c.args.end.now) ht.0 c.requires.one in
    let end : IsOver s (ev c.args.c.now) = subst (IsOver s) c.requires.end whole.1 in
    stays s tt (ht.0, (c.in_ok-closing.ensures.stays s (end, tt) tt, tt)))
    c.ev_kt.ensures.stays
