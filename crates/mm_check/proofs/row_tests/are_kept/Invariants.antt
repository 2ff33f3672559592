use Rattle.std.proofs.Common.{◌≡◌, drop, Bor, List, ℕ}
use Rattle.std.specs.List.{list_all}
use Rattle.mm_frame.specs.PlainFrames.{in_groups}
use Rattle.mm_header.specs.HeaderTable.{pair_of}
use Rattle.mm_scope.specs.ScopeState.{scope_state}
use Rattle.mm_check.specs.Stated.{plain_types}
use Rattle.mm_check.specs.RowTexts.{is_kept}
use Rattle.mm_check.proofs.row_tests.are_kept.Given as goal

abbrev pub invariant-loop-pair : goal.invariant-loop-pair
invariant-loop-pair l =
    list_all (λ (p : Bor (List ℕ) × Bor (List ℕ)).
    is_kept (in_groups (scope_state l.scopes).disjoint) (plain_types l.types) (pair_of p))
    (drop l.pair-index l.pairs)
    ≡ list_all (λ (p : Bor (List ℕ) × Bor (List ℕ)).
    is_kept (in_groups (scope_state l.scopes).disjoint) (plain_types l.types) (pair_of p)) l.pairs
