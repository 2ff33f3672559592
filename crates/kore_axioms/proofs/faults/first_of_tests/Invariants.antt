use Rattle.std.proofs.Common.{◌≡◌, ℕ, take, map}
use Rattle.std.specs.Prelude.{option_map}
use Rattle.kore_sig.specs.Noted.{first_by_number}
use Rattle.kore_sig.specs.FirstFault.{faults_of_tests}
use Rattle.kore_axioms.specs.Views.{fault_at, plain_test}
use Rattle.kore_axioms.proofs.faults.first_of_tests.Given as goal

abbrev pub invariant-loop-test : goal.invariant-loop-test
invariant-loop-test l =
    (at : ℕ)
    → option_map (fault_at at) l.first
    ≡ first_by_number (faults_of_tests at (map plain_test (take l.test-index l.tests)))
