use Rattle.std.proofs.Common.{[], ◌∷◌}
use Rattle.ml_pat.specs.Patterns.{imp, ex, equal, var, fun}
use Rattle.ml_kernel.specs.Rules.{pattern, variable, sort}
use Rattle.ml_kernel.specs.declared.rules.Rule.TheVariants as rule
use Rattle.ml_derived.proofs.RuleLaws.{rule_stays}
use Rattle.ml_derived.proofs.rules.fun_ex.Goals as goal

pub returns-clause-stays : goal.returns-clause-stays
returns-clause-stays c =
    rule_stays rule.FunEx (pattern c.args.p.now ∷ variable c.args.y.0 ∷ sort c.args.s.0 ∷ [])
    (ex c.args.y.0 c.args.s.0 (equal (var c.args.y.0) c.args.p.now) ∷ []) []
    (imp (ex c.args.y.0 c.args.s.0 (equal (var c.args.y.0) c.args.p.now))
    (fun c.args.p.now c.args.s.0)) c.fun_ex.result
    (λ s hp ht. ((hp.0.0.1, (hp.0.1.0, (hp.0.1.1, tt))), (hp.0, (hp.0.0.1, hp.0.1.1))))
    c.fun_ex.ensures
