use Rattle.std.proofs.Common.{◌≡◌, ℕ, nat_eq, drop}
use Rattle.std.specs.Prelude.{◌||◌}
use Rattle.std.specs.List.{list_all}
use Rattle.mm_frame.specs.PlainFrames.{in_groups}
use Rattle.mm_scope.specs.ScopeState.{scope_state}
use Rattle.mm_check.proofs.object_types.is_apart_from.Given as goal

abbrev pub invariant-loop-other : goal.invariant-loop-other
invariant-loop-other l =
    list_all (λ (m : ℕ). nat_eq m l.number || in_groups (scope_state l.scopes).disjoint l.number m)
    (drop l.other-index l.numbers)
    ≡ list_all (λ (m : ℕ).
    nat_eq m l.number || in_groups (scope_state l.scopes).disjoint l.number m) l.numbers
