use Rattle.std.proofs.Common.{◌≡◌, Some, refl, rules}
use Rattle.ml_pat.specs.Patterns.{Pattern, constant, equal, next, var}
use Rattle.ml_derived.specs.Equalities.{CanCarry}
use Rattle.proof_tests.proofs.derived.carries_into_a_context.Goals as goal

carries : (e context given : Pattern) → e ≡ equal (constant 0) (constant 1) → context ≡ next (var 7)
    → given ≡ next (constant 0) → CanCarry e context 7 given
carries e context given h i j =
    (constant 0, (constant 1, (next (constant 1), (h, (rw (i, j) refl, rw i refl)))))

pub carry-requires : goal.carry-requires
carry-requires g c =
    let context : c.in_ok-context.context ≡ next (var 7) = search rules in
    let given : c.in_ok-given.given.conclusion ≡ next (constant 0) = search rules in
    carries c.in_ok-eq.eq.conclusion c.in_ok-context.context c.in_ok-given.given.conclusion
    c.in_ok-eq.ensures context given
