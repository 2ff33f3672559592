use Rattle.std.proofs.Common.{◌≡◌, ℕ, length, map, take}
use Rattle.std.specs.Prelude.{◌||◌}
use Rattle.std.specs.List.{list_any}
use Rattle.kore_rules.specs.AxiomsRead.{is_marked, tree_at}
use Rattle.kore_rules.specs.ScalarSorts.{states_upper}
use Rattle.kore_rules.proofs.sorts.mark_uppers.Given as goal

abbrev pub invariant-loop-decl : goal.invariant-loop-decl
invariant-loop-decl l = record {
  len : length l.marks.items ≡ length l.fn.marks.items;
  marked : (n : ℕ) → is_marked l.marks.items n
      ≡ (is_marked l.fn.marks.items n
      || list_any (states_upper l.sorts n) (map tree_at (take l.decl-index l.axioms)));
}
