use Rattle.std.proofs.Common.{◌≡◌, ℕ, [], length}
use Rattle.kore_rules.specs.TrialOrder.{listed_at}
use Rattle.kore_rules.proofs.order.empty_lists.Given as goal

abbrev pub invariant-loop : goal.invariant-loop
invariant-loop l = record {
  len : length l.lists.items ≡ l.counter;
  empty : (n : ℕ) → listed_at l.lists.items n ≡ [];
}
