use Rattle.std.proofs.Common.{[]}
use Rattle.ml_pat.specs.Patterns.{top}
use Rattle.ml_kernel.specs.declared.rules.Rule.TheVariants as rule
use Rattle.ml_derived.proofs.RuleLaws.{rule_stays}
use Rattle.ml_derived.proofs.rules.top.Goals as goal

pub returns-clause-stays : goal.returns-clause-stays
returns-clause-stays c =
    rule_stays rule.Top ([]) ([]) ([]) (top) c.top.result
    (λ s hp ht. (tt, tt)) c.top.ensures
