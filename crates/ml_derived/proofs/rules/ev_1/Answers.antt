use Rattle.std.proofs.Common.{[], ◌∷◌}
use Rattle.ml_pat.specs.Patterns.{imp, ev}
use Rattle.ml_kernel.specs.Rules.{pattern}
use Rattle.ml_kernel.specs.declared.rules.Rule.TheVariants as rule
use Rattle.ml_derived.proofs.RuleLaws.{rule_stays}
use Rattle.ml_derived.proofs.rules.ev_1.Goals as goal

pub returns-clause-stays : goal.returns-clause-stays
returns-clause-stays c =
    rule_stays rule.Ev1 (pattern c.args.p.now ∷ []) (c.args.p.now ∷ []) ([])
    (imp c.args.p.now (ev c.args.p.now)) c.ev_1.result
    (λ s hp ht. ((hp.0, tt), (hp.0, hp.0))) c.ev_1.ensures
