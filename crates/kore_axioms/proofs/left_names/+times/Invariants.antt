use Rattle.std.proofs.Common.{◌≡◌, ◌≤◌, ◌+◌, drop, map, min}
use Rattle.kore_text.specs.Trees.{pattern_trees}
use Rattle.kore_ast.specs.Plain.{plain_sort, pattern_tree}
use Rattle.kore_axioms.specs.LeftNames.{times_in_all}
use Rattle.kore_axioms.proofs.left_names.+times.Given as goal

abbrev pub invariant-times_in_all-loop-pat : goal.invariant-times_in_all-loop-pat
invariant-times_in_all-loop-pat l = record {
  low : l.count ≤ 2;
  whole : min (l.count + times_in_all l.name (plain_sort l.sort)
      (pattern_trees (map pattern_tree (drop l.pat-index l.pats)))) 2
      ≡ min (times_in_all l.name (plain_sort l.sort) (pattern_trees (map pattern_tree l.pats))) 2;
}
