use Rattle.std.proofs.Common.{◌≡◌, drop, map}
use Rattle.std.specs.List.{list_any}
use Rattle.kore_ast.specs.Plain.{plain_sort}
use Rattle.kore_shapes.specs.Views.{pattern_at}
use Rattle.kore_shapes.specs.EquationForms.{has_variable}
use Rattle.kore_shapes.proofs.equations.is_beside.Given as goal

abbrev pub invariant-loop-pat : goal.invariant-loop-pat
invariant-loop-pat l =
    list_any (has_variable l.name (plain_sort l.sort)) (map pattern_at (drop l.pat-index l.pats))
    ≡ list_any (has_variable l.name (plain_sort l.sort)) (map pattern_at l.pats)
