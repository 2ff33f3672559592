use Rattle.std.proofs.Common.{◌≡◌, ◌∙◌, ap, List, map}
use Rattle.std.specs.Prelude.{◌||◌}
use Rattle.std.specs.List.{list_any}
use Rattle.kore_ast.specs.Plain.{pattern_tree}
use Rattle.kore_ast.specs.declared.tree.Pat.{Pat}
use Rattle.kore_rules.specs.AxiomsRead.{is_marked, tree_at}
use Rattle.kore_rules.specs.ScalarSorts.{states_upper, puts_below}
use Rattle.kore_rules.proofs.MarkLaws.{marked_more}
use Rattle.kore_rules.proofs.sorts.mark_uppers.Goals as goal

pub loop-decl-preserved : goal.loop-decl-preserved
loop-decl-preserved c = record {
  len = c.mark_stated.ensures.len ∙ c.loop-decl.invariant.len;
  marked = λ n.
      marked_more tree_at (states_upper c.args.sorts.now n) c.args.axioms.now c.loop-decl.decl-index
      c.decl-item.result (is_marked c.args.marks.now.items n)
      (is_marked c.loop-decl.marks.items n) (is_marked c.mark_stated.new.marks.items n)
      c.loop-decl-test.true c.decl-item.is
      (c.loop-decl.invariant.marked n)
      (c.mark_stated.ensures.marked n
      ∙ ap (λ (ps : List Pat). is_marked c.loop-decl.marks.items n
      || list_any (puts_below c.args.sorts.now n) (map pattern_tree ps))
      c.deref.ensures.value);
}
