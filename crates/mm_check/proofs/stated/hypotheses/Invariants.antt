use Rattle.std.proofs.Common.{◌≡◌, take}
use Rattle.mm_frame.specs.PlainFrames.{mandatory_hypotheses}
use Rattle.mm_scope.specs.ScopeState.{scope_state}
use Rattle.mm_check.specs.Stated.{plain_types, plain_premises, all_typed_by, premises_by}
use Rattle.mm_check.proofs.stated.hypotheses.Given as goal

abbrev pub invariant-loop-number : goal.invariant-loop-number
invariant-loop-number l =
    (plain_types l.types.items
    ≡ all_typed_by (scope_state l.scopes).symbols
    (take l.number (mandatory_hypotheses l.mandatory)))
    × (plain_premises l.premises.items
    ≡ premises_by (scope_state l.scopes).symbols (take l.number (mandatory_hypotheses l.mandatory)))
