use Rattle.std.proofs.Common.{◌≡◌, ℕ, length, take}
use Rattle.std.specs.Prelude.{◌||◌}
use Rattle.std.specs.List.{list_any}
use Rattle.kore_rules.specs.AxiomsRead.{is_marked}
use Rattle.kore_rules.specs.ScalarSorts.{entry_makes}
use Rattle.kore_rules.proofs.sorts.mark_results.Given as goal

abbrev pub invariant-loop-number : goal.invariant-loop-number
invariant-loop-number l = record {
  len : length l.marks.items ≡ length l.fn.marks.items;
  marked : (n : ℕ) → is_marked l.marks.items n
      ≡ (is_marked l.fn.marks.items n || list_any (entry_makes n) (take l.number l.sig.symbols));
}
