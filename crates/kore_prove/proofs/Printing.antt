-- What the output has after a call that printed no lines, or a part of them.
use Rattle.std.proofs.Common.{◌≡◌, ℕ, ◌⊎◌, inl, inr, List, refl, sym, ◌∙◌, ap, subst, arith}
use Rattle.desk_io.specs.SinkChanges.{SameBytes}
use Rattle.kore_prove.specs.DrillWords.{DrillRequest, IsDrill}
use Rattle.kore_prove.specs.RunWords.{RunRequest, IsRun}
use Rattle.kore_prove.specs.VerifyWords.{IsVerify}
use Rattle.kore_prove.specs.CheckWords.{CheckRequest, IsCheck}
use Rattle.kore_prove.specs.ProveWords.{ProveRequest, IsProve}
use Rattle.kore_prove.specs.Courses.{Call}
use Rattle.kore_prove.specs.CountedFaults.{CountsWriteFault, CountsOutputFault}
use Rattle.kore_prove.specs.BegunLines.{Begins, begins_run, begins_verdict, begins_check}
use Rattle.kore_prove.specs.BegunLines.{begins_path, begins_drill}
use Rattle.kore_prove.specs.BegunLines.{StopsPrinting, FailsInPrinting}
use Rattle.kore_prove.specs.Reports.{Ending, out_of_memory, bad_words, read_fault, write_fault}
use Rattle.kore_prove.specs.Reports.{no_such_file, definition_refused, term_refused, too_large}
use Rattle.kore_prove.specs.Reports.{hints_refused, end_code, Reports}
use Rattle.kore_prove.specs.Causes.{RunCause, run_unread, run_unproved, run_unprinted}
use Rattle.kore_prove.specs.Causes.{VerifyCause, file_unverified, verdict_unprinted}
use Rattle.kore_prove.specs.Causes.{CheckCause, check_undecided, check_unprinted}
use Rattle.kore_prove.specs.Causes.{PathCause, path_unread, path_unproved, path_unprinted}
use Rattle.kore_prove.specs.Causes.{DrillCause, drill_unmade, drill_unproved, drill_unprinted}
use Rattle.kore_prove.specs.Causes.{HasCause, without_memory, with_bad_words}
use Rattle.kore_prove.specs.Causes.{of_run, of_verify, of_check, of_prove, of_drill, StopsWriting}
use Rattle.kore_prove.specs.Causes.{IsDone, run_done, verify_done, check_done, prove_done}
use Rattle.kore_prove.specs.Causes.{drill_done}
use Rattle.kore_prove.proofs.Ending.{code_reported}

-- the output at each end
abbrev pub SameOr : Call → Type 0
SameOr c = SameBytes c.course.out.bytes c.course.out'.bytes ⊎ Begins c

run_output : (c : Call) (asked : RunRequest) (e : Ending) → IsRun c.words asked
    → RunCause asked c.course e → SameOr c
run_output c asked e command (run_unread h kept) = inl kept.0
run_output c asked e command (run_unproved has stopped same) = inl same
run_output c asked e command (run_unprinted begun stopped) = inr (begins_run command begun)

verify_output : (c : Call) (file : List ℕ) (e : Ending) → IsVerify c.words file
    → VerifyCause file c.course e → SameOr c
verify_output c file e command (file_unverified h kept) = inl kept.0
verify_output c file e command (verdict_unprinted begun stopped) =
    inr (begins_verdict command begun)

check_output : (c : Call) (asked : CheckRequest) (e : Ending) → IsCheck c.words asked
    → CheckCause asked c.course e → SameOr c
check_output c asked e command (check_undecided h kept) = inl kept.0
check_output c asked e command (check_unprinted begun stopped) = inr (begins_check command begun)

path_output : (c : Call) (asked : ProveRequest) (e : Ending) → IsProve c.words asked
    → PathCause asked c.course e → SameOr c
path_output c asked e command (path_unread h kept) = inl kept.0
path_output c asked e command (path_unproved has stopped same) = inl same
path_output c asked e command (path_unprinted begun stopped) = inr (begins_path command begun)

drill_output : (c : Call) (asked : DrillRequest) (e : Ending) → IsDrill c.words asked
    → DrillCause asked c.course e → SameOr c
drill_output c asked e command (drill_unmade memory kept) = inl kept.0
drill_output c asked e command (drill_unproved has stopped same) = inl same
drill_output c asked e command (drill_unprinted begun stopped) = inr (begins_drill command begun)

output_at : (c : Call) (e : Ending) → HasCause c e → SameOr c
output_at c out_of_memory (without_memory kept) = inl kept.0
output_at c bad_words (with_bad_words bad kept) = inl kept.0
output_at c e (of_run {asked = asked} command cause) = run_output c asked e command cause
output_at c e (of_verify {file = file} command cause) = verify_output c file e command cause
output_at c e (of_check {asked = asked} command cause) = check_output c asked e command cause
output_at c e (of_prove {asked = asked} command cause) = path_output c asked e command cause
output_at c e (of_drill {asked = asked} command cause) = drill_output c asked e command cause

-- a call that printed its lines has another code
not_stopped : (words : List (List ℕ)) (code : ℕ) → (code ≡ 1) ⊎ (code ≡ 4) → IsDone words code → ⊥
not_stopped words code (inl one) (run_done command h) = grind arith
not_stopped words code (inl one) (verify_done command h) = grind arith
not_stopped words code (inl one) (check_done command h) = grind arith
not_stopped words code (inl one) (prove_done command h) = grind arith
not_stopped words code (inl one) (drill_done command h) = grind arith
not_stopped words code (inr four) (run_done command h) = grind arith
not_stopped words code (inr four) (verify_done command h) = grind arith
not_stopped words code (inr four) (check_done command h) = grind arith
not_stopped words code (inr four) (prove_done command h) = grind arith
not_stopped words code (inr four) (drill_done command h) = grind arith

pub stopped_never : (c : Call) (code : ℕ) → IsDone c.words code → StopsPrinting c code
stopped_never c code done = λ stopped. absurd (not_stopped c.words code stopped done)

pub failed_never : (c : Call) (code : ℕ) → IsDone c.words code → FailsInPrinting c code
failed_never c code done = λ four _. absurd (not_stopped c.words code (inr four) done)

pub stopped_with : (c : Call) (code : ℕ) (e : Ending) → HasCause c e → StopsPrinting c code
stopped_with c code e cause = λ _. output_at c e cause

-- only a fault in writing has the code 4
fault_of_four : (e : Ending) → 4 ≡ end_code e → e ≡ write_fault
fault_of_four out_of_memory is = absurd (omega (arith, is))
fault_of_four bad_words is = absurd (omega (arith, is))
fault_of_four read_fault is = absurd (omega (arith, is))
fault_of_four write_fault is = refl
fault_of_four (no_such_file name) is = absurd (omega (arith, is))
fault_of_four (definition_refused number byte) is = absurd (omega (arith, is))
fault_of_four (term_refused number byte) is = absurd (omega (arith, is))
fault_of_four (too_large name) is = absurd (omega (arith, is))
fault_of_four (hints_refused number line) is = absurd (omega (arith, is))

-- the output counted a fault, and got a part of the lines
abbrev pub FailsAt : Call → Type 0
FailsAt c = CountsOutputFault c.course × Begins c

counted : (Counted : Type 0) → StopsWriting Counted write_fault → Counted
counted Counted (inl memory) = absurd (let one : 4 ≡ 1 = ap end_code memory in omega (arith, one))
counted Counted (inr failed) = failed.1

run_failed : (c : Call) (asked : RunRequest) → IsRun c.words asked
    → RunCause asked c.course write_fault → (CountsWriteFault c.course → ⊥) → FailsAt c
run_failed c asked command (run_unread h kept) free = absurd h
run_failed c asked command (run_unproved has stopped same) free =
    absurd (free (counted (CountsWriteFault c.course) stopped))
run_failed c asked command (run_unprinted begun stopped) free =
    (counted (CountsOutputFault c.course) stopped, begins_run command begun)

verify_failed : (c : Call) (file : List ℕ) → IsVerify c.words file
    → VerifyCause file c.course write_fault → FailsAt c
verify_failed c file command (file_unverified h kept) = absurd h
verify_failed c file command (verdict_unprinted begun stopped) =
    (counted (CountsOutputFault c.course) stopped, begins_verdict command begun)

check_failed : (c : Call) (asked : CheckRequest) → IsCheck c.words asked
    → CheckCause asked c.course write_fault → FailsAt c
check_failed c asked command (check_undecided h kept) = absurd h
check_failed c asked command (check_unprinted begun stopped) =
    (counted (CountsOutputFault c.course) stopped, begins_check command begun)

path_failed : (c : Call) (asked : ProveRequest) → IsProve c.words asked
    → PathCause asked c.course write_fault → (CountsWriteFault c.course → ⊥) → FailsAt c
path_failed c asked command (path_unread h kept) free = absurd h
path_failed c asked command (path_unproved has stopped same) free =
    absurd (free (counted (CountsWriteFault c.course) stopped))
path_failed c asked command (path_unprinted begun stopped) free =
    (counted (CountsOutputFault c.course) stopped, begins_path command begun)

drill_failed : (c : Call) (asked : DrillRequest) → IsDrill c.words asked
    → DrillCause asked c.course write_fault → (CountsWriteFault c.course → ⊥) → FailsAt c
drill_failed c asked command (drill_unmade memory kept) free =
    absurd (let one : 4 ≡ 1 = ap end_code memory in omega (arith, one))
drill_failed c asked command (drill_unproved has stopped same) free =
    absurd (free (counted (CountsWriteFault c.course) stopped))
drill_failed c asked command (drill_unprinted begun stopped) free =
    (counted (CountsOutputFault c.course) stopped, begins_drill command begun)

failed_at : (c : Call) (e : Ending) → e ≡ write_fault → HasCause c e
    → (CountsWriteFault c.course → ⊥) → FailsAt c
failed_at c out_of_memory is (without_memory kept) free =
    absurd (let four : 1 ≡ 4 = ap end_code is in omega (arith, four))
failed_at c bad_words is (with_bad_words bad kept) free =
    absurd (let four : 2 ≡ 4 = ap end_code is in omega (arith, four))
failed_at c e is (of_run {asked = asked} command cause) free =
    run_failed c asked command (subst (λ (end : Ending). RunCause asked c.course end) is cause) free
failed_at c e is (of_verify {file = file} command cause) free =
    verify_failed c file command (subst (λ (end : Ending). VerifyCause file c.course end) is cause)
failed_at c e is (of_check {asked = asked} command cause) free =
    check_failed c asked command (subst (λ (end : Ending). CheckCause asked c.course end) is cause)
failed_at c e is (of_prove {asked = asked} command cause) free =
    path_failed c asked command (subst (λ (end : Ending). PathCause asked c.course end) is cause)
    free
failed_at c e is (of_drill {asked = asked} command cause) free =
    drill_failed c asked command (subst (λ (end : Ending). DrillCause asked c.course end) is cause)
    free

pub failed_with : (c : Call) (code : ℕ) (e : Ending) → HasCause c e
    → Reports e c.err.bytes c.err'.bytes c.err.faults c.err'.faults code → FailsInPrinting c code
failed_with c code e cause said = λ four free.
    failed_at c e (elim (code_reported e _ _ _ _ code said) [
      | inl own ↦ fault_of_four e (sym four ∙ own)
      | inr one ↦ absurd (omega (arith, four, one))
    ]) cause free
