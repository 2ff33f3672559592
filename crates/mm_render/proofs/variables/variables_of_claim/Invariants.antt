use Rattle.std.proofs.Common.{◌≡◌, ◌++◌, [], flat_map, take}
use Rattle.mm_claims.specs.AddedVariables.{added}
use Rattle.mm_render.specs.ListedVariables.{listed}
use Rattle.mm_claims.specs.ClaimVariables.{variables_in}
use Rattle.mm_render.proofs.variables.variables_of_claim.Given as goal

abbrev pub invariant-loop-hypothesis : goal.invariant-loop-hypothesis
invariant-loop-hypothesis l = listed l.list
    ≡ added []
    (variables_in l.conclusion ++ flat_map variables_in (take l.hypothesis-index l.hypotheses))
