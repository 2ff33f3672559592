use Rattle.std.proofs.Common.{[], ◌∷◌}
use Rattle.ml_pat.specs.Patterns.{imp, all, fun}
use Rattle.ml_kernel.specs.Rules.{pattern, variable, sort}
use Rattle.ml_kernel.specs.declared.rules.Rule.TheVariants as rule
use Rattle.ml_derived.proofs.RuleLaws.{rule_stays}
use Rattle.ml_derived.proofs.rules.inst.Goals as goal

pub returns-clause-stays : goal.returns-clause-stays
returns-clause-stays c =
    rule_stays rule.Inst (pattern c.args.p.now ∷ pattern c.args.q.now ∷ pattern c.args.r.now
    ∷ variable c.args.x.0 ∷ sort c.args.s.0 ∷ [])
    (all c.args.x.0 c.args.s.0 c.args.p.now ∷ c.args.q.now ∷ c.args.r.now ∷ []) []
    (imp (all c.args.x.0 c.args.s.0 c.args.p.now)
    (imp (fun c.args.q.now c.args.s.0) c.args.r.now)) c.inst.result
    (λ s hp ht. (
      (hp.0.0, (hp.1.0, (hp.1.1.0, (hp.0.1.0, (hp.0.1.1, tt))))),
      (hp.0, ((hp.1.0, hp.0.1.1), hp.1.1.0)),
    )) c.inst.ensures
