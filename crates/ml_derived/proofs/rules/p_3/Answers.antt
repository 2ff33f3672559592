use Rattle.std.proofs.Common.{[], ◌∷◌}
use Rattle.ml_pat.specs.Patterns.{bot, imp}
use Rattle.ml_kernel.specs.Rules.{pattern}
use Rattle.ml_kernel.specs.declared.rules.Rule.TheVariants as rule
use Rattle.ml_derived.proofs.RuleLaws.{rule_stays}
use Rattle.ml_derived.proofs.rules.p_3.Goals as goal

pub returns-clause-stays : goal.returns-clause-stays
returns-clause-stays c =
    rule_stays rule.P3 (pattern c.args.p.now ∷ [])
    (c.args.p.now ∷ []) []
    (imp (imp (imp c.args.p.now bot) bot) c.args.p.now)
    c.p_3.result
    (λ s hp ht. ((hp.0, tt), (((hp.0, tt), tt), hp.0)))
    c.p_3.ensures
