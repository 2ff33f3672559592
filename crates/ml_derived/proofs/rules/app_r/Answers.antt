use Rattle.std.proofs.Common.{[], ◌∷◌, subst}
use Rattle.ml_pat.specs.Patterns.{imp, app}
use Rattle.ml_kernel.specs.Rules.{pattern}
use Rattle.ml_kernel.specs.declared.rules.Rule.TheVariants as rule
use Rattle.ml_derived.specs.Scopes.{IsOver}
use Rattle.ml_derived.proofs.RuleLaws.{rule_stays}
use Rattle.ml_derived.proofs.rules.app_r.Goals as goal

pub returns-clause-stays : goal.returns-clause-stays
returns-clause-stays c =
    rule_stays rule.AppR (pattern c.args.p.now ∷ pattern c.args.q.now ∷ pattern c.args.r.now ∷ pattern c.args.t.now ∷ [])
    (c.args.t.now ∷ []) (c.args.a.now ∷ [])
    (imp c.args.r.now (imp (app c.args.t.now c.args.p.now) (app c.args.t.now c.args.q.now)))
    c.app_r.result
    (λ s hp ht.
    let all : IsOver s (imp c.args.r.now (imp c.args.p.now c.args.q.now)) =
    subst (IsOver s) c.requires.a ht.0.conclusion in (
      (all.1.0, (all.1.1, (all.0, (hp.0, tt)))),
      (all.0, ((hp.0, all.1.0), (hp.0, all.1.1))),
    ))
    c.app_r.ensures
