use Rattle.std.proofs.Common.{◌≡◌}
use Rattle.mm_claims.specs.AddedVariables.{added}
use Rattle.mm_render.specs.ListedVariables.{listed}
use Rattle.mm_claims.specs.ClaimVariables.{variables_in}
use Rattle.mm_proof.specs.Searching.{all_forms, patterns_of}
use Rattle.mm_render.specs.VariablesView.{stack_variables}
use Rattle.mm_render.proofs.variables.VariableList.add_all.Given as goal

abbrev pub invariant-loop-next : goal.invariant-loop-next
invariant-loop-next l = added (listed l.self) (stack_variables (patterns_of l.stack.items))
    ≡ added (listed l.fn.self) (variables_in l.pattern)

abbrev pub decreases-loop-next : goal.decreases-loop-next
decreases-loop-next l = all_forms (patterns_of l.stack.items)
