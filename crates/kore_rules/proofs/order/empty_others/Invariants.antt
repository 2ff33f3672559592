use Rattle.std.proofs.Common.{◌≡◌, length}
use Rattle.kore_rules.specs.TrialOrder.{has_equations}
use Rattle.kore_rules.proofs.ListedLaws.{AreEmptiedTo}
use Rattle.kore_rules.proofs.order.empty_others.Given as goal

abbrev pub invariant-loop-number : goal.invariant-loop-number
invariant-loop-number l = record {
  len : length l.lists.items ≡ length l.fn.lists.items;
  emptied : AreEmptiedTo (has_equations l.symbols) l.fn.lists.items l.lists.items l.number;
}
