use Rattle.std.proofs.Common.{◌≡◌, ℕ, ◌++◌, length}
use Rattle.std.specs.Prelude.{filter}
use Rattle.kore_rules.specs.TrialOrder.{is_of, listed_at}
use Rattle.kore_rules.proofs.order.add_all.Given as goal

abbrev pub invariant-loop-equation : goal.invariant-loop-equation
invariant-loop-equation l = record {
  len : length l.lists.items ≡ length l.initial.lists.items;
  listed : (n : ℕ) → listed_at l.lists.items n
      ≡ listed_at l.initial.lists.items n ++ filter (is_of n) l.yielded;
}
