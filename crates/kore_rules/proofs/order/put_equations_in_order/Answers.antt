use Rattle.std.proofs.Common.{◌≡◌, rules}
use Rattle.std.proofs.lemmas.Fn.{always_returns_same}
use Rattle.kore_rules.specs.TrialOrder.{equation_key}
use Rattle.kore_rules.proofs.InTrialOrder.{sorted_in_order}
use Rattle.kore_rules.proofs.order.put_equations_in_order.Goals as goal

pub returns-clause-in_order : goal.returns-clause-in_order
returns-clause-in_order c =
    sorted_in_order equation_key c.args.equations.now.items c.sort_by_key.new.self.items
    c.in_ok-sort_by_key.ensures.permutation
    (c.in_ok-sort_by_key.ensures.sorted equation_key
    (always_returns_same _ (λ a r. r ≡ equation_key a.0.now) _ (λ a r q k. search rules)))
