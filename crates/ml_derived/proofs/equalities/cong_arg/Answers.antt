use Rattle.std.proofs.Common.{sym, ◌∙◌, subst}
use Rattle.ml_pat.specs.Patterns.{equal}
use Rattle.ml_derived.specs.Scopes.{IsOver}
use Rattle.ml_derived.proofs.StayingLaws.{if_ok, concluded}
use Rattle.ml_derived.proofs.equalities.cong_arg.Goals as goal

pub returns-clause-stays : goal.returns-clause-stays
returns-clause-stays c =
    if_ok c.argument_in.result
    (λ t stays s hp ht.
    let sides : IsOver s (equal c.sides.result.0.now c.sides.result.1.now) =
    concluded s c.args.a.now (equal c.sides.result.0.now c.sides.result.1.now) ht.0
    (sym c.conclusion.ensures ∙ c.sides.ensures) in
    let from : IsOver s c.in_ok-from.from =
    subst (IsOver s) (sym c.in_ok-from.ensures) (hp.0, sides.0) in
    stays s (hp.1.0, tt) (c.in_ok-same.ensures.stays s (from, tt) tt, (ht.0, tt)))
    c.argument_in.ensures.stays
