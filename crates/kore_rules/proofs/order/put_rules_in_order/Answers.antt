use Rattle.std.proofs.Common.{◌≡◌, rules}
use Rattle.std.proofs.lemmas.Fn.{always_returns_same}
use Rattle.kore_rules.specs.TrialOrder.{rule_key}
use Rattle.kore_rules.proofs.InTrialOrder.{sorted_in_order}
use Rattle.kore_rules.proofs.order.put_rules_in_order.Goals as goal

pub returns-clause-in_order : goal.returns-clause-in_order
returns-clause-in_order c =
    sorted_in_order rule_key c.args.rules.now.items c.sort_by_key.new.self.items
    c.in_ok-sort_by_key.ensures.permutation
    (c.in_ok-sort_by_key.ensures.sorted rule_key
    (always_returns_same _ (λ a r. r ≡ rule_key a.0.now) _ (λ a r q k. search rules)))
