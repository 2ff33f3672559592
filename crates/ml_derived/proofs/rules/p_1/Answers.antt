use Rattle.std.proofs.Common.{[], ◌∷◌}
use Rattle.ml_pat.specs.Patterns.{imp}
use Rattle.ml_kernel.specs.Rules.{pattern}
use Rattle.ml_kernel.specs.declared.rules.Rule.TheVariants as rule
use Rattle.ml_derived.proofs.RuleLaws.{rule_stays}
use Rattle.ml_derived.proofs.rules.p_1.Goals as goal

pub returns-clause-stays : goal.returns-clause-stays
returns-clause-stays c =
    rule_stays rule.P1 (pattern c.args.p.now ∷ pattern c.args.q.now ∷ [])
    (c.args.p.now ∷ c.args.q.now ∷ []) ([]) (imp c.args.p.now (imp c.args.q.now c.args.p.now))
    c.p_1.result
    (λ s hp ht. ((hp.0, (hp.1.0, tt)), (hp.0, (hp.1.0, hp.0)))) c.p_1.ensures
