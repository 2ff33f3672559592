use Rattle.std.proofs.Common.{[], ◌∷◌}
use Rattle.ml_pat.specs.Patterns.{equal}
use Rattle.ml_kernel.specs.Rules.{pattern}
use Rattle.ml_kernel.specs.declared.rules.Rule.TheVariants as rule
use Rattle.ml_derived.proofs.RuleLaws.{rule_stays}
use Rattle.ml_derived.proofs.rules.eq_refl.Goals as goal

pub returns-clause-stays : goal.returns-clause-stays
returns-clause-stays c =
    rule_stays rule.EqRefl (pattern c.args.p.now ∷ []) (c.args.p.now ∷ []) ([])
    (equal c.args.p.now c.args.p.now) c.eq_refl.result
    (λ s hp ht. ((hp.0, tt), (hp.0, hp.0))) c.eq_refl.ensures
