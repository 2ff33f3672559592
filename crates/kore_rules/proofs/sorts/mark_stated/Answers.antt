use Rattle.std.proofs.Common.{◌≡◌, ◌∙◌, sym, ap, ℕ, arith}
use Rattle.std.specs.Prelude.{Option, ◌||◌}
use Rattle.kore_text.specs.Trees.{SortTree}
use Rattle.kore_ast.specs.Plain.{pattern_tree}
use Rattle.kore_rules.specs.AxiomsRead.{is_marked}
use Rattle.kore_rules.specs.ScalarSorts.{puts_below, is_numbered_so}
use Rattle.kore_rules.proofs.MarkLaws.{marked_more}
use Rattle.kore_rules.proofs.sorts.mark_stated.Goals as goal

pub loop-attr-preserved : goal.loop-attr-preserved
loop-attr-preserved c = record {
  len = c.mark_numbered.ensures.len ∙ c.loop-attr.invariant.len;
  marked = λ n.
      marked_more pattern_tree (puts_below c.args.sorts.now n) c.args.attrs.now
      c.loop-attr.attr-index c.attr-item.result (is_marked c.args.marks.now.items n)
      (is_marked c.loop-attr.marks.items n) (is_marked c.mark_numbered.new.marks.items n)
      (omega arith) c.attr-item.is
      (c.loop-attr.invariant.marked n)
      (c.mark_numbered.ensures.marked n
      ∙ ap (λ (s : Option SortTree).
      is_marked c.loop-attr.marks.items n || is_numbered_so c.args.sorts.now n s)
      c.upper_sort.ensures);
}
