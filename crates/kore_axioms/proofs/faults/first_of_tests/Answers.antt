use Rattle.std.proofs.Common.{ℕ, Bool, List, take, get_or, map, ap, sym, ◌∙◌}
use Rattle.std.proofs.lemmas.List.{take_more, map-append}
use Rattle.kore_sig.specs.Noted.{first_by_number}
use Rattle.kore_sig.specs.FirstFault.{faults_of_tests}
use Rattle.kore_axioms.specs.Views.{plain_test}
use Rattle.kore_axioms.proofs.RaisedLaws.{first_raised_more}
use Rattle.kore_axioms.proofs.faults.first_of_tests.Goals as goal

pub loop-test-preserved : goal.loop-test-preserved
loop-test-preserved c = λ (at : ℕ).
    let tests = c.args.tests.now in
    let i = c.loop-test.test-index in
    c.smaller-first.ensures at
    ∙ first_raised_more at (map plain_test (take i tests)) (plain_test (get_or tests i _)) _
    (c.loop-test.invariant at)
    ∙ ap (λ (ts : List (Bool × ℕ)). first_by_number (faults_of_tests at ts)) (sym (ap (map
    plain_test) (take_more tests i _ c.loop-test-test.true) ∙ map-append plain_test (take i
    tests) _))
