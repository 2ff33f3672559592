use Rattle.std.proofs.Common.{sym}
use Rattle.ml_pat.specs.Patterns.{equal}
use Rattle.ml_derived.specs.Scopes.{leaves_of, IsOver}
use Rattle.ml_derived.proofs.PutLaws.{EachLeaf-substituted}
use Rattle.ml_derived.proofs.StayingLaws.{if_ok, concluded}
use Rattle.ml_derived.proofs.equalities.carried.Goals as goal

pub returns-clause-stays : goal.returns-clause-stays
returns-clause-stays c =
    if_ok c.mp-2.result
    (λ t stays s hp ht.
    let sides : IsOver s (equal c.args.p.now c.args.q.now) =
    concluded s c.args.eq.now (equal c.args.p.now c.args.q.now) ht.0 c.requires.eq in
    let made : IsOver s c.args.made.now =
    EachLeaf-substituted (leaves_of s) c.args.x.0 c.args.q.now c.args.ctx.now c.args.made.now
    sides.1 hp.0 c.requires.made in
    let given : IsOver s c.conclusion-given.result.now =
    concluded s c.args.thm.now c.conclusion-given.result.now ht.1.0
    (sym c.conclusion-given.ensures) in
    stays s tt (
      ht.1.0,
      (
        c.in_ok-open.ensures.stays s tt (
          ht.0,
          (
            c.in_ok-rule.ensures.stays s (sides.0, (sides.1, (hp.0, (given, (made, (hp.1.0, tt))))))
                tt,
            tt,
          ),
        ),
        tt,
      ),
    ))
    c.mp-2.ensures.stays
