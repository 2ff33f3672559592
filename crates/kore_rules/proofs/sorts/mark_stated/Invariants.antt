use Rattle.std.proofs.Common.{◌≡◌, ℕ, length, map, take}
use Rattle.std.specs.Prelude.{◌||◌}
use Rattle.std.specs.List.{list_any}
use Rattle.kore_ast.specs.Plain.{pattern_tree}
use Rattle.kore_rules.specs.AxiomsRead.{is_marked}
use Rattle.kore_rules.specs.ScalarSorts.{puts_below}
use Rattle.kore_rules.proofs.sorts.mark_stated.Given as goal

abbrev pub invariant-loop-attr : goal.invariant-loop-attr
invariant-loop-attr l = record {
  len : length l.marks.items ≡ length l.fn.marks.items;
  marked : (n : ℕ) → is_marked l.marks.items n
      ≡ (is_marked l.fn.marks.items n
      || list_any (puts_below l.sorts n) (map pattern_tree (take l.attr-index l.attrs)));
}
