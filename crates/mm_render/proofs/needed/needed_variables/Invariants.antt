use Rattle.std.proofs.Common.{◌≡◌}
use Rattle.mm_claims.specs.AddedVariables.{added}
use Rattle.mm_render.specs.ListedVariables.{listed}
use Rattle.mm_render.specs.NeededView.{stack_needs, stack_steps}
use Rattle.mm_claims.specs.OpenVariables.{variables_of}
use Rattle.mm_render.specs.PlaceTable.{found_at}
use Rattle.mm_render.specs.VariablesView.{plain_variables}
use Rattle.mm_render.proofs.needed.needed_variables.Given as goal

abbrev pub invariant-loop-next : goal.invariant-loop-next
invariant-loop-next l = added (listed l.list) (stack_needs (found_at l.at) l.stack.items)
    ≡ added (plain_variables l.variables) (variables_of (found_at l.at) l.derivation)

abbrev pub decreases-loop-next : goal.decreases-loop-next
decreases-loop-next l = stack_steps l.stack.items
