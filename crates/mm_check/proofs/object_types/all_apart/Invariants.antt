use Rattle.std.proofs.Common.{◌≡◌, drop}
use Rattle.std.specs.List.{list_all}
use Rattle.mm_frame.specs.PlainFrames.{in_groups}
use Rattle.mm_scope.specs.ScopeState.{scope_state}
use Rattle.mm_check.specs.AxiomTests.{is_apart_from}
use Rattle.mm_check.proofs.object_types.all_apart.Given as goal

abbrev pub invariant-loop-number : goal.invariant-loop-number
invariant-loop-number l =
    list_all (is_apart_from (in_groups (scope_state l.scopes).disjoint) l.numbers)
    (drop l.number-index l.numbers)
    ≡ list_all (is_apart_from (in_groups (scope_state l.scopes).disjoint) l.numbers) l.numbers
