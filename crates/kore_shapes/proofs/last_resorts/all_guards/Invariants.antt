use Rattle.std.proofs.Common.{◌≡◌, List, ◌++◌, drop, map}
use Rattle.std.specs.Prelude.{option_map}
use Rattle.kore_ast.specs.Plain.{plain_sort, pattern_tree}
use Rattle.kore_shapes.specs.LastResorts.{GuardParts, all_guards}
use Rattle.kore_shapes.specs.Views.{pattern_at}
use Rattle.kore_shapes.specs.ResortViews.{plain_guard}
use Rattle.kore_shapes.proofs.last_resorts.all_guards.Given as goal

abbrev pub invariant-loop-guard : goal.invariant-loop-guard
invariant-loop-guard l =
    option_map (λ (gs : List GuardParts). map plain_guard l.found.items ++ gs)
    (all_guards (plain_sort l.over) (map pattern_tree l.parameters)
    (map pattern_at (drop l.guard-index l.guards)))
    ≡ all_guards (plain_sort l.over) (map pattern_tree l.parameters)
    (map pattern_at l.guards)
