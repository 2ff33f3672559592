use Rattle.std.proofs.Common.{◌≡◌, drop, map}
use Rattle.std.specs.List.{list_any}
use Rattle.kore_ast.specs.Plain.{plain_sort, pattern_tree}
use Rattle.kore_shapes.specs.EquationForms.{has_variable}
use Rattle.kore_shapes.proofs.equations.is_in.Given as goal

abbrev pub invariant-loop-pat : goal.invariant-loop-pat
invariant-loop-pat l =
    list_any (has_variable l.name (plain_sort l.sort)) (map pattern_tree (drop l.pat-index l.pats))
    ≡ list_any (has_variable l.name (plain_sort l.sort)) (map pattern_tree l.pats)
