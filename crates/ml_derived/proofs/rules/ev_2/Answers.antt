use Rattle.std.proofs.Common.{[], ◌∷◌}
use Rattle.ml_pat.specs.Patterns.{imp, next, ev}
use Rattle.ml_kernel.specs.Rules.{pattern}
use Rattle.ml_kernel.specs.declared.rules.Rule.TheVariants as rule
use Rattle.ml_derived.proofs.RuleLaws.{rule_stays}
use Rattle.ml_derived.proofs.rules.ev_2.Goals as goal

pub returns-clause-stays : goal.returns-clause-stays
returns-clause-stays c =
    rule_stays rule.Ev2 (pattern c.args.p.now ∷ []) (c.args.p.now ∷ []) ([])
    (imp (next (ev c.args.p.now)) (ev c.args.p.now)) c.ev_2.result
    (λ s hp ht. ((hp.0, tt), (hp.0, hp.0))) c.ev_2.ensures
