use Rattle.std.proofs.Common.{[], ◌∷◌}
use Rattle.ml_pat.specs.Patterns.{imp, not, and, equal, fun}
use Rattle.ml_kernel.specs.Rules.{pattern, sort}
use Rattle.ml_kernel.specs.declared.rules.Rule.TheVariants as rule
use Rattle.ml_derived.proofs.RuleLaws.{rule_stays}
use Rattle.ml_derived.proofs.rules.apart.Goals as goal

pub returns-clause-stays : goal.returns-clause-stays
returns-clause-stays c =
    rule_stays rule.Apart (pattern c.args.p.now ∷ pattern c.args.q.now ∷ sort c.args.s.0 ∷ sort c.args.v.0 ∷ [])
    (fun c.args.p.now c.args.s.0 ∷ fun c.args.q.now c.args.v.0 ∷ []) []
    (imp (fun c.args.p.now c.args.s.0) (imp (fun c.args.q.now c.args.v.0) (imp (not (equal c.args.p.now c.args.q.now)) (not (and c.args.p.now c.args.q.now)))))
    c.apart.result
    (λ s hp ht. (
      (hp.0.0, (hp.1.0.0, (hp.0.1, (hp.1.0.1, tt)))),
      (hp.0, (hp.1.0, ((hp.0.0, hp.1.0.0), (hp.0.0, hp.1.0.0)))),
    ))
    c.apart.ensures
