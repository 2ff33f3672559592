use Rattle.std.proofs.Common.{◌≡◌, ◌≤◌, ◌+◌, drop, map, min}
use Rattle.kore_ast.specs.Plain.{plain_sort}
use Rattle.kore_shapes.specs.Views.{pattern_at}
use Rattle.kore_axioms.specs.LeftNames.{times_in}
use Rattle.kore_axioms.proofs.left_names.times_in.Given as goal

abbrev pub invariant-loop-pat : goal.invariant-loop-pat
invariant-loop-pat l = record {
  low : l.count ≤ 2;
  whole : min (l.count + times_in l.name (plain_sort l.sort)
      (map pattern_at (drop l.pat-index l.pats))) 2
      ≡ min (times_in l.name (plain_sort l.sort) (map pattern_at l.pats)) 2;
}
