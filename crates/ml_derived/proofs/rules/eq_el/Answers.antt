use Rattle.std.proofs.Common.{[], ◌∷◌}
use Rattle.ml_pat.specs.Patterns.{imp, equal, var}
use Rattle.ml_kernel.specs.Rules.{pattern, variable}
use Rattle.ml_kernel.specs.declared.rules.Rule.TheVariants as rule
use Rattle.ml_derived.proofs.RuleLaws.{rule_stays}
use Rattle.ml_derived.proofs.rules.eq_el.Goals as goal

pub returns-clause-stays : goal.returns-clause-stays
returns-clause-stays c =
    rule_stays rule.EqEl (pattern c.args.p.now ∷ pattern c.args.q.now ∷ pattern c.args.r.now
    ∷ pattern c.args.t.now ∷ pattern c.args.u.now ∷ variable c.args.x.0 ∷ [])
    (c.args.p.now ∷ c.args.q.now ∷ c.args.r.now ∷ c.args.t.now ∷ c.args.u.now ∷ var c.args.x.0
    ∷ []) [] (imp (equal c.args.p.now c.args.q.now) (imp c.args.t.now c.args.u.now))
    c.eq_el.result
    (λ s hp ht. (
      (hp.0, (hp.1.0, (hp.1.1.0, (hp.1.1.1.0, (hp.1.1.1.1.0, (hp.1.1.1.1.1.0, tt)))))),
      ((hp.0, hp.1.0), (hp.1.1.1.0, hp.1.1.1.1.0)),
    )) c.eq_el.ensures
