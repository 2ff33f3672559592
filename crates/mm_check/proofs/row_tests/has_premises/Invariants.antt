use Rattle.std.proofs.Common.{◌≡◌, take, map, Bor, List, ℕ}
use Rattle.mm_header.specs.HeaderRows.{expression_of}
use Rattle.mm_check.specs.Stated.{plain_premises}
use Rattle.mm_check.proofs.row_tests.has_premises.Given as goal

abbrev pub invariant-loop-i : goal.invariant-loop-i
invariant-loop-i l =
    plain_premises (take l.i l.premises)
    ≡ map expression_of (map (λ (h : Bor (List ℕ)). h.now) (take l.i l.hyps))
