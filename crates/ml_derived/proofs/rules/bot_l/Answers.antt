use Rattle.std.proofs.Common.{[], ◌∷◌}
use Rattle.ml_pat.specs.Patterns.{bot, imp, app}
use Rattle.ml_kernel.specs.Rules.{pattern}
use Rattle.ml_kernel.specs.declared.rules.Rule.TheVariants as rule
use Rattle.ml_derived.proofs.RuleLaws.{rule_stays}
use Rattle.ml_derived.proofs.rules.bot_l.Goals as goal

pub returns-clause-stays : goal.returns-clause-stays
returns-clause-stays c =
    rule_stays rule.BotL (pattern c.args.p.now ∷ [])
    (c.args.p.now ∷ []) []
    (imp (app bot c.args.p.now) bot)
    c.bot_l.result
    (λ s hp ht. ((hp.0, tt), ((tt, hp.0), tt)))
    c.bot_l.ensures
