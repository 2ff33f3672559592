-- What holds of a call, for each of its results.
use Rattle.std.proofs.Common.{◌≡◌, ℕ, ◌⊎◌, inl, inr, List, Option, Some, refl, ◌∙◌, ap, subst}
use Rattle.std.proofs.Common.{arith, sym}
use Rattle.std.specs.Prelude.{IsTrue}
use Rattle.desk_io.specs.KeptFiles.{KeepsFiles}
use Rattle.desk_io.specs.SinkChanges.{SameBytes}
use Rattle.rule_core.specs.Runs.{Run, stuck, limited, stopped, unstarted}
use Rattle.kore_prove.specs.DrillWords.{DrillRequest, IsDrill, IsNoDrill}
use Rattle.kore_prove.specs.RunWords.{RunRequest, IsRun}
use Rattle.kore_prove.specs.VerifyWords.{IsVerify, IsNoVerify}
use Rattle.kore_prove.specs.CheckWords.{CheckRequest, IsCheck, IsNoCheck}
use Rattle.kore_prove.specs.ProveWords.{ProveRequest, IsProve, IsNoProve}
use Rattle.kore_prove.specs.BadWords.{AreBad}
use Rattle.desk_io.specs.Sent.{Appends}
use Rattle.kore_prove.specs.HintedRun.{HoldsHints, HasWantedHints}
use Rattle.kore_prove.specs.HintFronts.{LeavesHints}
use Rattle.kore_prove.specs.ProvedPath.{LeavesFrontOfPath, LeavesPath, ProvesPath, SendsPath}
use Rattle.kore_prove.specs.CompletePaths.{CompletesPath}
use Rattle.kore_prove.specs.Words.{IsWrittenFile}
use Rattle.kore_prove.specs.PrintedRun.{code_of, IsCodeOfRun, IsPrinted}
use Rattle.kore_prove.specs.ProvedRun.{HoldsProof, HasWantedProof}
use Rattle.kore_prove.specs.ShownRun.{HoldsShown, HasWantedShown}
use Rattle.kore_prove.specs.RunFronts.{LeavesFront}
use Rattle.kore_prove.specs.Verdicts.{PrintsVerdict}
use Rattle.kore_prove.specs.Checks.{PrintsCheck}
use Rattle.kore_prove.specs.CompleteChecks.{CompletesCheck}
use Rattle.kore_prove.specs.Decisions.{PrintsDecision, decision_code}
use Rattle.kore_prove.specs.declared.checking.Decision.{Decision}
use Rattle.kore_prove.specs.DrilledRun.{IsDrilled, Drills, LeavesDrill, LeavesFrontOfDrill}
use Rattle.kore_prove.specs.DatabaseVerdicts.{PrintsVerdictOn, verdict_code}
use Rattle.kore_prove.specs.declared.verification.Verdict.{Verdict}
use Rattle.kore_prove.specs.Reports.{Ending, out_of_memory, bad_words, Reports}
use Rattle.kore_prove.specs.Causes.{VerifyCause, CheckCause, without_memory, with_bad_words}
use Rattle.kore_prove.specs.Causes.{of_run, of_verify, of_check, of_drill, run_done, verify_done}
use Rattle.kore_prove.specs.Causes.{check_done, drill_done, of_prove, prove_done}
use Rattle.kore_prove.specs.Courses.{Course, Call}
use Rattle.kore_prove.specs.Unwritten.{IsUnwritten}
use Rattle.kore_prove.specs.CompleteDrills.{CompletesDrill}
use Rattle.kore_prove.specs.Requests.{IsWrittenBy, IsPathFile, IsDrillFile}
use Rattle.kore_prove.specs.RunsDone.{IsRunDone, IsRunEnded, IsDrillDone, IsDrillEnded}
use Rattle.kore_prove.specs.RunsDone.{IsPathDone, IsPathEnded}
use Rattle.kore_prove.specs.Calls.{IsAnswered}
use Rattle.kore_prove.proofs.CommandWords.{one_request, one_drill, run_good, verify_good}
use Rattle.kore_prove.proofs.CommandWords.{drill_good, not_both, run_no_drill, verify_no_drill}
use Rattle.kore_prove.proofs.CommandWords.{bad_no_drill, check_good, run_no_check, verify_no_check}
use Rattle.kore_prove.proofs.CommandWords.{drill_no_check, bad_no_check, one_prove, prove_good}
use Rattle.kore_prove.proofs.CommandWords.{run_no_prove, verify_no_prove, check_no_prove}
use Rattle.kore_prove.proofs.CommandWords.{drill_no_prove, bad_no_prove}
use Rattle.kore_prove.proofs.Completing.{run_ends_without_memory, verify_ends_without_memory}
use Rattle.kore_prove.proofs.Completing.{check_ends_without_memory, code_of_drill, ready_run}
use Rattle.kore_prove.proofs.Completing.{ready_verify, ready_check, ready_prove, path_stops}
use Rattle.kore_prove.proofs.Completing.{code_of_path}
use Rattle.kore_prove.proofs.Ending.{code_of_no_end, code_of_run, code_of_one}
use Rattle.kore_prove.proofs.Ending.{run_files, drill_files, path_files}
use Rattle.kore_prove.proofs.Ending.{same_files, code_reported}
use Rattle.kore_prove.proofs.Verifying.{code_of_verdict, prints_verdict}
use Rattle.kore_prove.proofs.Deciding.{code_of_decision, prints_check}
use Rattle.kore_prove.proofs.Printing.{stopped_never, failed_never, stopped_with, failed_with}
use Rattle.kore_prove.proofs.FileProofs.{some_same, kept_others, fewer_others, kept_file}
use Rattle.kore_prove.proofs.Drills.{drilled_front}
use Rattle.kore_prove.proofs.PathFiles.{sent_front}
use Rattle.kore_prove.proofs.Performing.{left_front, proof_is_front, left_hints, hints_are_front}

-- the code of a run is one of three codes
run_code : (run : Run) (code : ℕ) → code ≡ code_of run → (code ≡ 0) ⊎ (code ≡ 10) ⊎ (code ≡ 11)
run_code (stuck n t) code is = inl is
run_code (limited n t) code is = inr (inl is)
run_code (stopped n cause t) code is = inr (inr is)
run_code (unstarted cause) code is = inr (inr is)

run_writes : (code : ℕ) (P : Type 0) → (code ≡ 0) ⊎ (code ≡ 10) ⊎ (code ≡ 11) → IsUnwritten code → P
run_writes code P (inl zero) un = absurd (un.0 zero)
run_writes code P (inr (inl ten)) un = absurd (un.3 ten)
run_writes code P (inr (inr eleven)) un = absurd (un.4 eleven)

more_code : (code : ℕ) → (code ≡ 0) ⊎ (code ≡ 10) ⊎ (code ≡ 11)
    → (code ≡ 0) ⊎ (code ≡ 10) ⊎ (code ≡ 11) ⊎ (code ≡ 1)
more_code code (inl h) = inl h
more_code code (inr (inl h)) = inr (inl h)
more_code code (inr (inr h)) = inr (inr (inl h))

wanted_proof : (proof : Option (List ℕ)) (file : List ℕ) (c : Course) (asked : RunRequest)
    (run : Run) (done : IsRunDone asked c run) → asked.proof ≡ Some file
    → HoldsProof c.desk.told c.desk'.told file done.theory done.start run
wanted_proof proof file c asked run done is =
    subst
    (λ (p : Option (List ℕ)). HasWantedProof p c.desk.told c.desk'.told done.theory done.start run)
    is
    done.proof

wanted_shown : (file : List ℕ) (c : Course) (asked : RunRequest) (run : Run)
    (done : IsRunDone asked c run) → asked.proof ≡ Some file
    → HoldsShown c.desk.told c.desk'.told file done.theory run done.printed.shown
wanted_shown file c asked run done is =
    subst
    (λ (p : Option (List ℕ)).
    HasWantedShown p c.desk.told c.desk'.told done.theory run done.printed.shown)
    is
    done.shows

-- a file that holds the front of a proof holds it for every reading of the words
same_front : (asked asked' : RunRequest) (c : Course) → asked ≡ asked'
    → LeavesFront asked c.desk.told c.desk'.told → LeavesFront asked' c.desk.told c.desk'.told
same_front asked asked' c same h =
    subst (λ (r : RunRequest). LeavesFront r c.desk.told c.desk'.told) same h

front_of_run : (asked : RunRequest) (c : Course) (run : Run) → IsRunDone asked c run
    → LeavesFront asked c.desk.told c.desk'.told
front_of_run asked c run done =
    let files = done.printed.of_files.files in
    left_front asked c.desk.told c.desk.told c.desk'.told done.theory done.start files
    (same_files c.desk.told)
    (proof_is_front asked.proof c.desk.told c.desk'.told done.theory asked.limit asked.calls done.start
    run done.printed.of_files.is_run done.proof)

wanted_hints : (file : List ℕ) (c : Course) (asked : RunRequest) (run : Run)
    (done : IsRunDone asked c run) → asked.hints ≡ Some file
    → HoldsHints c.desk.told c.desk'.told file done.theory asked.calls done.start run
wanted_hints file c asked run done is =
    subst
    (λ (p : Option (List ℕ)).
    HasWantedHints p c.desk.told c.desk'.told done.theory asked.calls done.start run)
    is
    done.hints

same_hints : (asked asked' : RunRequest) (c : Course) → asked ≡ asked'
    → LeavesHints asked c.desk.told c.desk'.told → LeavesHints asked' c.desk.told c.desk'.told
same_hints asked asked' c same h =
    subst (λ (r : RunRequest). LeavesHints r c.desk.told c.desk'.told) same h

hint_front_of_run : (asked : RunRequest) (c : Course) (run : Run) → IsRunDone asked c run
    → LeavesHints asked c.desk.told c.desk'.told
hint_front_of_run asked c run done =
    let files = done.printed.of_files.files in
    left_hints asked c.desk.told c.desk.told c.desk'.told done.theory done.start files
    (same_files c.desk.told)
    (hints_are_front asked.hints c.desk.told c.desk'.told done.theory asked.limit asked.calls
    done.start run done.printed.of_files.is_run done.hints)

-- a file that the run writes is one that the words name
written_by_run : (words : List (List ℕ)) (asked : RunRequest) (file : List ℕ) → IsRun words asked
    → IsWrittenBy asked file → IsWrittenFile words file
written_by_run words asked file command (inl proof) = inl (asked, command, proof)
written_by_run words asked file command (inr hints) = inr (inl (asked, command, hints))

-- words that do not ask for a verdict get no verdict
no_verdict : (c : Call) (code : ℕ) → IsNoVerify c.words → PrintsVerdict c code
no_verdict c code unasked = λ file verify. absurd (unasked file verify)

-- words that do not ask for a check get none
no_checked : (c : Call) (code : ℕ) → IsNoCheck c.words → PrintsCheck c code
no_checked c code unasked = λ asked command. absurd (unasked asked command)

no_check_completed : (c : Call) (code : ℕ) → IsNoCheck c.words → CompletesCheck c code
no_check_completed c code unasked =
    λ ready _ _.
    (let k = ready_check c.words c.course.desk.told ready in absurd (unasked k.0 k.1))

-- words that do not ask for a proof of a path get none
no_proved_path : (c : Call) (code : ℕ) → IsNoProve c.words → ProvesPath c code
no_proved_path c code unasked = λ _ asked command. absurd (unasked asked command)

no_path_front : (c : Call) → IsNoProve c.words → LeavesFrontOfPath c
no_path_front c unasked = λ asked command. absurd (unasked asked command)

no_path_completed : (c : Call) (code : ℕ) → IsNoProve c.words → CompletesPath c code
no_path_completed c code unasked =
    λ ready _.
    (let k = ready_prove c.words c.course.desk.told ready in absurd (unasked k.0 k.1))

-- words that do not ask for a drill get no drill
no_drilled : (c : Call) (code : ℕ) → IsNoDrill c.words
    → Drills c code
no_drilled c code unasked = λ _ asked command. absurd (unasked asked command)

no_drill_front : (c : Call) → IsNoDrill c.words
    → LeavesFrontOfDrill c
no_drill_front c unasked = λ asked command. absurd (unasked asked command)

no_drill_completed : (c : Call) (code : ℕ) → IsNoDrill c.words
    → CompletesDrill c code
no_drill_completed c code unasked = λ asked command. absurd (unasked asked command)

pub run_answered : (c : Call) (code : ℕ) (asked : RunRequest) (run : Run) → IsRun c.words asked
    → IsRunDone asked c.course run → code ≡ code_of run → SameBytes c.err.bytes c.err'.bytes
    → IsAnswered c code
run_answered c code asked run command done is silent =
    let printed : IsPrinted c.words c.course.desk.told c.course.out.bytes c.course.out'.bytes code =
    record {
      asked = asked;
      command = command;
      theory = done.theory;
      start = done.start;
      run = run;
      printed = done.printed;
      code_is = is;
    } in
    let codes : (code ≡ 0) ⊎ (code ≡ 10) ⊎ (code ≡ 11) = run_code run code is in record {
      printed_run = λ _. printed;
      proved_run = λ _ file wanted. (
          let same : asked.proof ≡ Some file =
          ap (λ (r : RunRequest). r.proof) (one_request c.words asked wanted.0 command wanted.1)
          ∙ wanted.2 in
          record {
            printed = printed;
            wanted = same;
            proof = wanted_proof asked.proof file c.course asked run done same;
          });
      shown_stuck = λ _ file wanted. (
          let one : asked ≡ wanted.0 =
          one_request c.words asked wanted.0 command wanted.1 in
          let same : asked.proof ≡ Some file =
          ap (λ (r : RunRequest). r.proof) one ∙ wanted.2 in
          record {
            printed = printed;
            wanted = same;
            asked = subst IsTrue (ap (λ (r : RunRequest). r.stuck) (sym one)) wanted.3;
            shown = wanted_shown file c.course asked run done same;
          });
      proof_front =
          λ asked' command'. same_front asked asked' c.course
          (one_request c.words asked asked' command command')
          (front_of_run asked c.course run done);
      hinted_run = λ _ file wanted. (
          let same : asked.hints ≡ Some file =
          ap (λ (r : RunRequest). r.hints) (one_request c.words asked wanted.0 command wanted.1)
          ∙ wanted.2 in
          record {
            printed = printed;
            wanted = same;
            hints = wanted_hints file c.course asked run done same;
          });
      hint_front =
          λ asked' command'. same_hints asked asked' c.course
          (one_request c.words asked asked' command command')
          (hint_front_of_run asked c.course run done);
      verdict =
          no_verdict c code
          (λ file verify. not_both c.words asked file command verify);
      checked = no_checked c code (run_no_check c.words asked command);
      proved_path = no_proved_path c code (run_no_prove c.words asked command);
      path_front = no_path_front c (run_no_prove c.words asked command);
      drilled = no_drilled c code (run_no_drill c.words asked command);
      drill_front = no_drill_front c (run_no_drill c.words asked command);
      ends = inl (record { done = run_done command codes; silent = silent });
      stops_printing = stopped_never c code (run_done command codes);
      fails_in_printing = failed_never c code (run_done command codes);
      complete = λ _ _. more_code code codes;
      complete_verdict =
          λ ready _ _. (let v = ready_verify c.words c.course.desk.told ready in
          absurd (not_both c.words asked v.0 command v.1));
      complete_check = no_check_completed c code (run_no_check c.words asked command);
      complete_path = no_path_completed c code (run_no_prove c.words asked command);
      complete_drill = no_drill_completed c code (run_no_drill c.words asked command);
      bad_words = λ bad. absurd (run_good c.words asked command bad);
      others =
          fewer_others (IsWrittenBy asked) (IsWrittenFile c.words) c.course.desk.told
          c.course.desk'.told (λ file. written_by_run c.words asked file command) done.others;
      files = run_writes code _ codes;
    }

pub run_ended : (c : Call) (code : ℕ) (asked : RunRequest) (e : Ending) → IsRun c.words asked
    → IsRunEnded asked c.course e → Reports e c.err.bytes c.err'.bytes c.err.faults c.err'.faults
    code
    → IsAnswered c code
run_ended c code asked e command ended said = record {
  printed_run = λ h. absurd (code_of_no_end e _ _ _ _ code said (code_of_run c.words code h));
  proved_run = λ h _ _. absurd (code_of_no_end e _ _ _ _ code said (code_of_run c.words code h));
  shown_stuck = λ h _ _. absurd (code_of_no_end e _ _ _ _ code said (code_of_run c.words code h));
  proof_front =
      λ asked' command'. same_front asked asked' c.course
      (one_request c.words asked asked' command command') ended.front;
  hinted_run = λ h _ _. absurd (code_of_no_end e _ _ _ _ code said (code_of_run c.words code h));
  hint_front =
      λ asked' command'. same_hints asked asked' c.course
      (one_request c.words asked asked' command command') ended.hint_front;
  verdict =
      no_verdict c code
      (λ file verify. not_both c.words asked file command verify);
  checked = no_checked c code (run_no_check c.words asked command);
  proved_path = no_proved_path c code (run_no_prove c.words asked command);
  path_front = no_path_front c (run_no_prove c.words asked command);
  drilled = no_drilled c code (run_no_drill c.words asked command);
  drill_front = no_drill_front c (run_no_drill c.words asked command);
  ends = inr (record { end = e; cause = of_run command ended.cause; said = said });
  stops_printing = stopped_with c code e (of_run command ended.cause);
  fails_in_printing = failed_with c code e (of_run command ended.cause) said;
  complete =
      λ ready free. inr (inr (inr (code_of_one e _ _ _ _ code said
      (run_ends_without_memory c.words c.course.desk.told asked c.course e refl ready command free
      ended.cause))));
  complete_verdict =
      λ ready _ _. (let v = ready_verify c.words c.course.desk.told ready in
      absurd (not_both c.words asked v.0 command v.1));
  complete_check = no_check_completed c code (run_no_check c.words asked command);
  complete_path = no_path_completed c code (run_no_prove c.words asked command);
  complete_drill = no_drill_completed c code (run_no_drill c.words asked command);
  bad_words = λ bad. absurd (run_good c.words asked command bad);
  others =
      fewer_others (IsWrittenBy asked) (IsWrittenFile c.words) c.course.desk.told
      c.course.desk'.told (λ file. written_by_run c.words asked file command) ended.others;
  files = run_files asked c.course e _ _ _ _ code said ended.cause;
}

-- the code of a verdict is not the code of a run
verdict_no_run : (words : List (List ℕ)) (file : List ℕ) (v : Verdict) (code : ℕ) (P : Type 0)
    → IsVerify words file → code ≡ verdict_code v → IsCodeOfRun words code → P
verdict_no_run words file v code P command is h = absurd (elim h [
  | inl ten ↦ elim (code_of_verdict v code is)
      [ inl zero ↦ omega (arith, ten, zero) | inr twelve ↦ omega (arith, ten, twelve) ]
  | inr (inl eleven) ↦ elim (code_of_verdict v code is)
      [ inl zero ↦ omega (arith, eleven, zero) | inr twelve ↦ omega (arith, eleven, twelve) ]
  | inr (inr zero) ↦ zero.1 file command
])

verdict_codes : (code : ℕ) → (code ≡ 0) ⊎ (code ≡ 12) → (code ≡ 0) ⊎ (code ≡ 12) ⊎ (code ≡ 1)
verdict_codes code (inl h) = inl h
verdict_codes code (inr h) = inr (inl h)

pub verify_answered : (c : Call) (code : ℕ) (file : List ℕ) (v : Verdict) → IsVerify c.words file
    → PrintsVerdictOn file c.course.desk.told c.course.out.bytes c.course.out'.bytes v
    → KeepsFiles c.course.desk.told c.course.desk'.told → code ≡ verdict_code v
    → SameBytes c.err.bytes c.err'.bytes
    → IsAnswered c code
verify_answered c code file v command printed kept is silent = record {
  printed_run = λ h. verdict_no_run c.words file v code _ command is h;
  proved_run = λ h _ _. verdict_no_run c.words file v code _ command is h;
  shown_stuck = λ h _ _. verdict_no_run c.words file v code _ command is h;
  proof_front = λ _ _ name _. inl (kept_file c.course.desk.told c.course.desk'.told name kept);
  hinted_run = λ h _ _. verdict_no_run c.words file v code _ command is h;
  hint_front = λ _ _ name _. inl (kept_file c.course.desk.told c.course.desk'.told name kept);
  verdict = prints_verdict c file v code command printed is;
  checked = no_checked c code (verify_no_check c.words file command);
  proved_path = no_proved_path c code (verify_no_prove c.words file command);
  path_front = no_path_front c (verify_no_prove c.words file command);
  drilled = no_drilled c code (verify_no_drill c.words file command);
  drill_front = no_drill_front c (verify_no_drill c.words file command);
  ends = inl (record { done = verify_done command (code_of_verdict v code is); silent = silent });
  stops_printing = stopped_never c code (verify_done command (code_of_verdict v code is));
  fails_in_printing = failed_never c code (verify_done command (code_of_verdict v code is));
  complete =
      λ ready _. (let r = ready_run c.words c.course.desk.told ready in
      absurd (not_both c.words r.0 file r.1 command));
  complete_verdict = λ _ _ _. verdict_codes code (code_of_verdict v code is);
  complete_check = no_check_completed c code (verify_no_check c.words file command);
  complete_path = no_path_completed c code (verify_no_prove c.words file command);
  complete_drill = no_drill_completed c code (verify_no_drill c.words file command);
  bad_words = λ bad. absurd (verify_good c.words file command bad);
  others = kept_others (IsWrittenFile c.words) c.course.desk.told c.course.desk'.told kept;
  files = λ _. kept;
}

-- the code of an end is not the code of a verdict
ended_no_verdict : (c : Call) (code : ℕ) (e : Ending)
    → Reports e c.err.bytes c.err'.bytes c.err.faults c.err'.faults code → PrintsVerdict c code
ended_no_verdict c code e said = λ file verify. (
  λ zero. absurd (code_of_no_end e _ _ _ _ code said (inl zero)),
  λ twelve. absurd (code_of_no_end e _ _ _ _ code said (inr (inr (inr (inl twelve))))),
)

pub verify_ended : (c : Call) (code : ℕ) (file : List ℕ) (e : Ending) → IsVerify c.words file
    → VerifyCause file c.course e → KeepsFiles c.course.desk.told c.course.desk'.told
    → Reports e c.err.bytes c.err'.bytes c.err.faults c.err'.faults code → IsAnswered c code
verify_ended c code file e command cause kept said = record {
  printed_run = λ h. absurd (code_of_no_end e _ _ _ _ code said (code_of_run c.words code h));
  proved_run = λ h _ _. absurd (code_of_no_end e _ _ _ _ code said (code_of_run c.words code h));
  shown_stuck = λ h _ _. absurd (code_of_no_end e _ _ _ _ code said (code_of_run c.words code h));
  proof_front = λ _ _ name _. inl (kept_file c.course.desk.told c.course.desk'.told name kept);
  hinted_run = λ h _ _. absurd (code_of_no_end e _ _ _ _ code said (code_of_run c.words code h));
  hint_front = λ _ _ name _. inl (kept_file c.course.desk.told c.course.desk'.told name kept);
  verdict = ended_no_verdict c code e said;
  checked = no_checked c code (verify_no_check c.words file command);
  proved_path = no_proved_path c code (verify_no_prove c.words file command);
  path_front = no_path_front c (verify_no_prove c.words file command);
  drilled = no_drilled c code (verify_no_drill c.words file command);
  drill_front = no_drill_front c (verify_no_drill c.words file command);
  ends = inr (record { end = e; cause = of_verify command cause; said = said });
  stops_printing = stopped_with c code e (of_verify command cause);
  fails_in_printing = failed_with c code e (of_verify command cause) said;
  complete =
      λ ready _. (let r = ready_run c.words c.course.desk.told ready in
      absurd (not_both c.words r.0 file r.1 command));
  complete_verdict =
      λ ready reads writes. inr (inr (code_of_one e _ _ _ _ code said
      (verify_ends_without_memory c.words c.course.desk.told file c.course e refl ready command
      reads
      writes cause)));
  complete_check = no_check_completed c code (verify_no_check c.words file command);
  complete_path = no_path_completed c code (verify_no_prove c.words file command);
  complete_drill = no_drill_completed c code (verify_no_drill c.words file command);
  bad_words = λ bad. absurd (verify_good c.words file command bad);
  others = kept_others (IsWrittenFile c.words) c.course.desk.told c.course.desk'.told kept;
  files = λ _. kept;
}

-- the code of a check is not the code of a run
check_no_run : (words : List (List ℕ)) (asked : CheckRequest) (d : Decision) (code : ℕ) (P : Type 0)
    → IsCheck words asked → code ≡ decision_code d → IsCodeOfRun words code → P
check_no_run words asked d code P command is h = absurd (elim h [
  | inl ten ↦ elim (code_of_decision d code is) [
    | inl zero ↦ omega (arith, ten, zero)
    | inr (inl twelve) ↦ omega (arith, ten, twelve)
    | inr (inr thirteen) ↦ omega (arith, ten, thirteen)
  ]
  | inr (inl eleven) ↦ elim (code_of_decision d code is) [
    | inl zero ↦ omega (arith, eleven, zero)
    | inr (inl twelve) ↦ omega (arith, eleven, twelve)
    | inr (inr thirteen) ↦ omega (arith, eleven, thirteen)
  ]
  | inr (inr zero) ↦ zero.2 asked command
])

check_codes : (code : ℕ) → (code ≡ 0) ⊎ (code ≡ 12) ⊎ (code ≡ 13)
    → (code ≡ 0) ⊎ (code ≡ 12) ⊎ (code ≡ 13) ⊎ (code ≡ 1)
check_codes code (inl h) = inl h
check_codes code (inr (inl h)) = inr (inl h)
check_codes code (inr (inr h)) = inr (inr (inl h))

pub check_answered : (c : Call) (code : ℕ) (asked : CheckRequest) (d : Decision)
    → IsCheck c.words asked
    → PrintsDecision c.course.desk.told asked c.course.out.bytes c.course.out'.bytes d
    → KeepsFiles c.course.desk.told c.course.desk'.told → code ≡ decision_code d
    → SameBytes c.err.bytes c.err'.bytes → IsAnswered c code
check_answered c code asked d command printed kept is silent = record {
  printed_run = λ h. check_no_run c.words asked d code _ command is h;
  proved_run = λ h _ _. check_no_run c.words asked d code _ command is h;
  shown_stuck = λ h _ _. check_no_run c.words asked d code _ command is h;
  proof_front = λ _ _ name _. inl (kept_file c.course.desk.told c.course.desk'.told name kept);
  hinted_run = λ h _ _. check_no_run c.words asked d code _ command is h;
  hint_front = λ _ _ name _. inl (kept_file c.course.desk.told c.course.desk'.told name kept);
  verdict = no_verdict c code (λ file verify. verify_no_check c.words file verify asked command);
  checked = prints_check c asked d code command printed is;
  proved_path = no_proved_path c code (check_no_prove c.words asked command);
  path_front = no_path_front c (check_no_prove c.words asked command);
  drilled = no_drilled c code (λ drill k. drill_no_check c.words drill k asked command);
  drill_front = no_drill_front c (λ drill k. drill_no_check c.words drill k asked command);
  ends = inl (record { done = check_done command (code_of_decision d code is); silent = silent });
  stops_printing = stopped_never c code (check_done command (code_of_decision d code is));
  fails_in_printing = failed_never c code (check_done command (code_of_decision d code is));
  complete =
      λ ready _. (let r = ready_run c.words c.course.desk.told ready in
      absurd (run_no_check c.words r.0 r.1 asked command));
  complete_verdict =
      λ ready _ _. (let v = ready_verify c.words c.course.desk.told ready in
      absurd (verify_no_check c.words v.0 v.1 asked command));
  complete_check = λ _ _ _. check_codes code (code_of_decision d code is);
  complete_path = no_path_completed c code (check_no_prove c.words asked command);
  complete_drill =
      no_drill_completed c code (λ drill k. drill_no_check c.words drill k asked command);
  bad_words = λ bad. absurd (check_good c.words asked command bad);
  others = kept_others (IsWrittenFile c.words) c.course.desk.told c.course.desk'.told kept;
  files = λ _. kept;
}

-- the code of an end is not the code of a check
ended_no_check : (c : Call) (code : ℕ) (e : Ending)
    → Reports e c.err.bytes c.err'.bytes c.err.faults c.err'.faults code → PrintsCheck c code
ended_no_check c code e said = λ asked command. (
  λ zero. absurd (code_of_no_end e _ _ _ _ code said (inl zero)),
  λ twelve. absurd (code_of_no_end e _ _ _ _ code said (inr (inr (inr (inl twelve))))),
  λ thirteen. absurd (code_of_no_end e _ _ _ _ code said (inr (inr (inr (inr thirteen))))),
)

pub check_ended : (c : Call) (code : ℕ) (asked : CheckRequest) (e : Ending) → IsCheck c.words asked
    → CheckCause asked c.course e → KeepsFiles c.course.desk.told c.course.desk'.told
    → Reports e c.err.bytes c.err'.bytes c.err.faults c.err'.faults code → IsAnswered c code
check_ended c code asked e command cause kept said = record {
  printed_run = λ h. absurd (code_of_no_end e _ _ _ _ code said (code_of_run c.words code h));
  proved_run = λ h _ _. absurd (code_of_no_end e _ _ _ _ code said (code_of_run c.words code h));
  shown_stuck = λ h _ _. absurd (code_of_no_end e _ _ _ _ code said (code_of_run c.words code h));
  proof_front = λ _ _ name _. inl (kept_file c.course.desk.told c.course.desk'.told name kept);
  hinted_run = λ h _ _. absurd (code_of_no_end e _ _ _ _ code said (code_of_run c.words code h));
  hint_front = λ _ _ name _. inl (kept_file c.course.desk.told c.course.desk'.told name kept);
  verdict = ended_no_verdict c code e said;
  checked = ended_no_check c code e said;
  proved_path = no_proved_path c code (check_no_prove c.words asked command);
  path_front = no_path_front c (check_no_prove c.words asked command);
  drilled = no_drilled c code (λ drill k. drill_no_check c.words drill k asked command);
  drill_front = no_drill_front c (λ drill k. drill_no_check c.words drill k asked command);
  ends = inr (record { end = e; cause = of_check command cause; said = said });
  stops_printing = stopped_with c code e (of_check command cause);
  fails_in_printing = failed_with c code e (of_check command cause) said;
  complete =
      λ ready _. (let r = ready_run c.words c.course.desk.told ready in
      absurd (run_no_check c.words r.0 r.1 asked command));
  complete_verdict =
      λ ready _ _. (let v = ready_verify c.words c.course.desk.told ready in
      absurd (verify_no_check c.words v.0 v.1 asked command));
  complete_check =
      λ ready reads writes. inr (inr (inr (code_of_one e _ _ _ _ code said
      (check_ends_without_memory c.words c.course.desk.told asked c.course e refl ready command reads
      writes cause))));
  complete_path = no_path_completed c code (check_no_prove c.words asked command);
  complete_drill =
      no_drill_completed c code (λ drill k. drill_no_check c.words drill k asked command);
  bad_words = λ bad. absurd (check_good c.words asked command bad);
  others = kept_others (IsWrittenFile c.words) c.course.desk.told c.course.desk'.told kept;
  files = λ _. kept;
}

-- the code of a drill is not the code of a run
drill_no_run : (words : List (List ℕ)) (asked : DrillRequest) (code : ℕ) (P : Type 0)
    → IsDrill words asked → code ≡ 0 → IsCodeOfRun words code → P
drill_no_run words asked code P command is (inl ten) = absurd (omega (arith, ten, is))
drill_no_run words asked code P command is (inr (inl eleven)) = absurd (omega (arith, eleven, is))
drill_no_run words asked code P command is (inr (inr zero)) = absurd (zero.4 asked command)

same_drill : (asked asked' : DrillRequest) (c : Course) → asked ≡ asked'
    → LeavesDrill asked c.desk.told c.desk'.told → LeavesDrill asked' c.desk.told c.desk'.told
same_drill asked asked' c same h =
    subst (λ (d : DrillRequest). LeavesDrill d c.desk.told c.desk'.told) same h

pub drill_answered : (c : Call) (code : ℕ) (asked : DrillRequest) → IsDrill c.words asked
    → IsDrillDone asked c.course → code ≡ 0 → SameBytes c.err.bytes c.err'.bytes → IsAnswered c code
drill_answered c code asked command done is silent =
    let made : IsDrilled asked c.course.desk.told c.course.desk'.told c.course.out.bytes
    c.course.out'.bytes =
    done.drilled in
    record {
      printed_run = λ h. drill_no_run c.words asked code _ command is h;
      proved_run = λ h _ _. drill_no_run c.words asked code _ command is h;
      shown_stuck = λ h _ _. drill_no_run c.words asked code _ command is h;
      proof_front = λ run ran. absurd (run_no_drill c.words run ran asked command);
      hinted_run = λ h _ _. drill_no_run c.words asked code _ command is h;
      hint_front = λ run ran. absurd (run_no_drill c.words run ran asked command);
      verdict =
          no_verdict c code
          (λ file verify. verify_no_drill c.words file verify asked command);
      checked = no_checked c code (drill_no_check c.words asked command);
      proved_path = no_proved_path c code (drill_no_prove c.words asked command);
      path_front = no_path_front c (drill_no_prove c.words asked command);
      drilled =
          λ _ asked' command'. subst (λ (d : DrillRequest).
          IsDrilled d c.course.desk.told c.course.desk'.told c.course.out.bytes c.course.out'.bytes)
          (one_drill c.words asked asked' command command') made;
      drill_front =
          λ asked' command'. same_drill asked asked' c.course
          (one_drill c.words asked asked' command command') (drilled_front asked c.course.desk.told
          c.course.desk'.told c.course.out.bytes c.course.out'.bytes made);
      ends = inl (record { done = drill_done command is; silent = silent });
      stops_printing = stopped_never c code (drill_done command is);
      fails_in_printing = failed_never c code (drill_done command is);
      complete =
          λ ready _. (let r = ready_run c.words c.course.desk.told ready in
          absurd (run_no_drill c.words r.0 r.1 asked command));
      complete_verdict =
          λ ready _ _. (let v = ready_verify c.words c.course.desk.told ready in
          absurd (verify_no_drill c.words v.0 v.1 asked command));
      complete_check = no_check_completed c code (drill_no_check c.words asked command);
      complete_path = no_path_completed c code (drill_no_prove c.words asked command);
      complete_drill = λ _ _. inl is;
      bad_words = λ bad. absurd (drill_good c.words asked command bad);
      others =
          fewer_others (IsDrillFile asked) (IsWrittenFile c.words) c.course.desk.told
          c.course.desk'.told
          (λ file wanted. inr (inr (inr (asked, command, some_same asked.file file wanted)))) done.others;
      files = λ un. absurd (un.0 is);
    }

pub drill_ended : (c : Call) (code : ℕ) (asked : DrillRequest) (e : Ending) → IsDrill c.words asked
    → IsDrillEnded asked c.course e → Reports e c.err.bytes c.err'.bytes c.err.faults c.err'.faults
    code
    → IsAnswered c code
drill_ended c code asked e command ended said = record {
  printed_run = λ h. absurd (code_of_no_end e _ _ _ _ code said (code_of_run c.words code h));
  proved_run = λ h _ _. absurd (code_of_no_end e _ _ _ _ code said (code_of_run c.words code h));
  shown_stuck = λ h _ _. absurd (code_of_no_end e _ _ _ _ code said (code_of_run c.words code h));
  proof_front = λ run ran. absurd (run_no_drill c.words run ran asked command);
  hinted_run = λ h _ _. absurd (code_of_no_end e _ _ _ _ code said (code_of_run c.words code h));
  hint_front = λ run ran. absurd (run_no_drill c.words run ran asked command);
  verdict =
      no_verdict c code
      (λ file verify. verify_no_drill c.words file verify asked command);
  checked = no_checked c code (drill_no_check c.words asked command);
  proved_path = no_proved_path c code (drill_no_prove c.words asked command);
  path_front = no_path_front c (drill_no_prove c.words asked command);
  drilled = λ zero _ _. absurd (code_of_no_end e _ _ _ _ code said (inl zero));
  drill_front =
      λ asked' command'. same_drill asked asked' c.course
      (one_drill c.words asked asked' command command') ended.front;
  ends = inr (record { end = e; cause = of_drill command ended.cause; said = said });
  stops_printing = stopped_with c code e (of_drill command ended.cause);
  fails_in_printing = failed_with c code e (of_drill command ended.cause) said;
  complete =
      λ ready _. (let r = ready_run c.words c.course.desk.told ready in
      absurd (run_no_drill c.words r.0 r.1 asked command));
  complete_verdict =
      λ ready _ _. (let v = ready_verify c.words c.course.desk.told ready in
      absurd (verify_no_drill c.words v.0 v.1 asked command));
  complete_check = no_check_completed c code (drill_no_check c.words asked command);
  complete_path = no_path_completed c code (drill_no_prove c.words asked command);
  complete_drill = λ _ _. inr (code_of_drill asked c.course e _ _ _ _ code said ended.cause);
  bad_words = λ bad. absurd (drill_good c.words asked command bad);
  others =
      fewer_others (IsDrillFile asked) (IsWrittenFile c.words) c.course.desk.told c.course.desk'.told
      (λ file wanted. inr (inr (inr (asked, command, some_same asked.file file wanted)))) ended.others;
  files = drill_files asked c.course e _ _ _ _ code said ended.cause;
}

-- the code of a proof of a path is not the code of a run
path_no_run : (words : List (List ℕ)) (asked : ProveRequest) (code : ℕ) (P : Type 0)
    → IsProve words asked → code ≡ 0 → IsCodeOfRun words code → P
path_no_run words asked code P command is (inl ten) = absurd (omega (arith, ten, is))
path_no_run words asked code P command is (inr (inl eleven)) = absurd (omega (arith, eleven, is))
path_no_run words asked code P command is (inr (inr zero)) = absurd (zero.3 asked command)

same_path : (asked asked' : ProveRequest) (c : Course) → asked ≡ asked'
    → LeavesPath asked c.desk.told c.desk'.told → LeavesPath asked' c.desk.told c.desk'.told
same_path asked asked' c same h =
    subst (λ (p : ProveRequest). LeavesPath p c.desk.told c.desk'.told) same h

pub prove_answered : (c : Call) (code : ℕ) (asked : ProveRequest) → IsProve c.words asked
    → IsPathDone asked c.course → code ≡ 0 → SameBytes c.err.bytes c.err'.bytes → IsAnswered c code
prove_answered c code asked command done is silent =
    let unchecked : IsNoCheck c.words = λ check k. check_no_prove c.words check k asked command in
    let undrilled : IsNoDrill c.words = λ drill k. drill_no_prove c.words drill k asked command in
    record {
      printed_run = λ h. path_no_run c.words asked code _ command is h;
      proved_run = λ h _ _. path_no_run c.words asked code _ command is h;
      shown_stuck = λ h _ _. path_no_run c.words asked code _ command is h;
      proof_front = λ run ran. absurd (run_no_prove c.words run ran asked command);
      hinted_run = λ h _ _. path_no_run c.words asked code _ command is h;
      hint_front = λ run ran. absurd (run_no_prove c.words run ran asked command);
      verdict =
          no_verdict c code
          (λ file verify. verify_no_prove c.words file verify asked command);
      checked = no_checked c code unchecked;
      proved_path =
          λ _ asked' command'. subst (λ (p : ProveRequest).
          SendsPath Appends p c.course.desk.told c.course.desk'.told c.course.out.bytes
          c.course.out'.bytes) (one_prove c.words asked asked' command command') done.sent;
      path_front =
          λ asked' command'. same_path asked asked' c.course
          (one_prove c.words asked asked' command command') (sent_front asked c.course.desk.told
          c.course.desk'.told c.course.out.bytes c.course.out'.bytes done.sent);
      drilled = no_drilled c code undrilled;
      drill_front = no_drill_front c undrilled;
      ends = inl (record { done = prove_done command is; silent = silent });
      stops_printing = stopped_never c code (prove_done command is);
      fails_in_printing = failed_never c code (prove_done command is);
      complete =
          λ ready _. (let r = ready_run c.words c.course.desk.told ready in
          absurd (run_no_prove c.words r.0 r.1 asked command));
      complete_verdict =
          λ ready _ _. (let v = ready_verify c.words c.course.desk.told ready in
          absurd (verify_no_prove c.words v.0 v.1 asked command));
      complete_check = no_check_completed c code unchecked;
      complete_path = λ _ _. inl is;
      complete_drill = no_drill_completed c code undrilled;
      bad_words = λ bad. absurd (prove_good c.words asked command bad);
      others =
          fewer_others (IsPathFile asked) (IsWrittenFile c.words) c.course.desk.told
          c.course.desk'.told
          (λ file wanted.
          inr (inr (inl (asked, command, some_same asked.proof file wanted)))) done.others;
      files = λ un. absurd (un.0 is);
    }

pub prove_ended : (c : Call) (code : ℕ) (asked : ProveRequest) (e : Ending)
    → IsProve c.words asked → IsPathEnded asked c.course e
    → Reports e c.err.bytes c.err'.bytes c.err.faults c.err'.faults code → IsAnswered c code
prove_ended c code asked e command ended said =
    let unchecked : IsNoCheck c.words = λ check k. check_no_prove c.words check k asked command in
    let undrilled : IsNoDrill c.words = λ drill k. drill_no_prove c.words drill k asked command in
    record {
      printed_run =
          λ h. absurd (code_of_no_end e _ _ _ _ code said (code_of_run c.words code h));
      proved_run =
          λ h _ _. absurd (code_of_no_end e _ _ _ _ code said (code_of_run c.words code h));
      shown_stuck =
          λ h _ _. absurd (code_of_no_end e _ _ _ _ code said (code_of_run c.words code h));
      proof_front = λ run ran. absurd (run_no_prove c.words run ran asked command);
      hinted_run =
          λ h _ _. absurd (code_of_no_end e _ _ _ _ code said (code_of_run c.words code h));
      hint_front = λ run ran. absurd (run_no_prove c.words run ran asked command);
      verdict =
          no_verdict c code
          (λ file verify. verify_no_prove c.words file verify asked command);
      checked = no_checked c code unchecked;
      proved_path = λ zero _ _. absurd (code_of_no_end e _ _ _ _ code said (inl zero));
      path_front =
          λ asked' command'. same_path asked asked' c.course
          (one_prove c.words asked asked' command command') ended.front;
      drilled = no_drilled c code undrilled;
      drill_front = no_drill_front c undrilled;
      ends = inr (record { end = e; cause = of_prove command ended.cause; said = said });
      stops_printing = stopped_with c code e (of_prove command ended.cause);
      fails_in_printing = failed_with c code e (of_prove command ended.cause) said;
      complete =
          λ ready _. (let r = ready_run c.words c.course.desk.told ready in
          absurd (run_no_prove c.words r.0 r.1 asked command));
      complete_verdict =
          λ ready _ _. (let v = ready_verify c.words c.course.desk.told ready in
          absurd (verify_no_prove c.words v.0 v.1 asked command));
      complete_check = no_check_completed c code unchecked;
      complete_path =
          λ ready free. inr (code_of_path e _ _ _ _ code said
          (path_stops c.words c.course.desk.told asked c.course e refl ready command free
          ended.cause));
      complete_drill = no_drill_completed c code undrilled;
      bad_words = λ bad. absurd (prove_good c.words asked command bad);
      others =
          fewer_others (IsPathFile asked) (IsWrittenFile c.words) c.course.desk.told
          c.course.desk'.told
          (λ file wanted.
          inr (inr (inl (asked, command, some_same asked.proof file wanted)))) ended.others;
      files = path_files asked c.course e _ _ _ _ code said ended.cause;
    }

pub bad_answered : (c : Call) (code : ℕ) → AreBad c.words
    → SameBytes c.course.out.bytes c.course.out'.bytes → KeepsFiles c.course.desk.told
    c.course.desk'.told
    → Reports bad_words c.err.bytes c.err'.bytes c.err.faults c.err'.faults code → IsAnswered c code
bad_answered c code bad output kept said = record {
  printed_run =
      λ h. absurd (code_of_no_end bad_words _ _ _ _ code said (code_of_run c.words code h));
  proved_run =
      λ h _ _. absurd (code_of_no_end bad_words _ _ _ _ code said (code_of_run c.words code h));
  shown_stuck =
      λ h _ _. absurd (code_of_no_end bad_words _ _ _ _ code said (code_of_run c.words code h));
  proof_front = λ _ _ name _. inl (kept_file c.course.desk.told c.course.desk'.told name kept);
  hinted_run =
      λ h _ _. absurd (code_of_no_end bad_words _ _ _ _ code said (code_of_run c.words code h));
  hint_front = λ _ _ name _. inl (kept_file c.course.desk.told c.course.desk'.told name kept);
  verdict = ended_no_verdict c code bad_words said;
  checked = no_checked c code (bad_no_check c.words bad);
  proved_path = no_proved_path c code (bad_no_prove c.words bad);
  path_front = no_path_front c (bad_no_prove c.words bad);
  drilled = no_drilled c code (bad_no_drill c.words bad);
  drill_front = no_drill_front c (bad_no_drill c.words bad);
  ends = inr (record { end = bad_words; cause = with_bad_words bad (output, kept); said = said });
  stops_printing = stopped_with c code bad_words (with_bad_words bad (output, kept));
  fails_in_printing = failed_with c code bad_words (with_bad_words bad (output, kept)) said;
  complete =
      λ ready _.
      (let r = ready_run c.words c.course.desk.told ready in absurd (run_good c.words r.0 r.1 bad));
  complete_verdict =
      λ ready _ _. (let v = ready_verify c.words c.course.desk.told ready in
      absurd (verify_good c.words v.0 v.1 bad));
  complete_check = no_check_completed c code (bad_no_check c.words bad);
  complete_path = no_path_completed c code (bad_no_prove c.words bad);
  complete_drill = no_drill_completed c code (bad_no_drill c.words bad);
  bad_words = λ _. code_reported bad_words _ _ _ _ code said;
  others = kept_others (IsWrittenFile c.words) c.course.desk.told c.course.desk'.told kept;
  files = λ _. kept;
}

pub memory_answered : (c : Call) (code : ℕ)
    → SameBytes c.course.out.bytes c.course.out'.bytes
    → KeepsFiles c.course.desk.told c.course.desk'.told
    → Reports out_of_memory c.err.bytes c.err'.bytes c.err.faults c.err'.faults code
    → IsAnswered c code
memory_answered c code output kept said =
    let one : code ≡ 1 = code_of_one out_of_memory _ _ _ _ code said refl in record {
      printed_run =
          λ h. absurd (code_of_no_end out_of_memory _ _ _ _ code said (code_of_run c.words code h));
      proved_run =
          λ h _ _.
          absurd (code_of_no_end out_of_memory _ _ _ _ code said (code_of_run c.words code h));
      shown_stuck =
          λ h _ _.
          absurd (code_of_no_end out_of_memory _ _ _ _ code said (code_of_run c.words code h));
      proof_front = λ _ _ name _. inl (kept_file c.course.desk.told c.course.desk'.told name kept);
      hinted_run =
          λ h _ _.
          absurd (code_of_no_end out_of_memory _ _ _ _ code said (code_of_run c.words code h));
      hint_front = λ _ _ name _. inl (kept_file c.course.desk.told c.course.desk'.told name kept);
      verdict = ended_no_verdict c code out_of_memory said;
      checked = ended_no_check c code out_of_memory said;
      proved_path = λ zero _ _. absurd (code_of_no_end out_of_memory _ _ _ _ code said (inl zero));
      path_front = λ asked _. inl (kept_file c.course.desk.told c.course.desk'.told asked.proof kept);
      drilled = λ zero _ _. absurd (code_of_no_end out_of_memory _ _ _ _ code said (inl zero));
      drill_front = λ asked _. inl (kept_file c.course.desk.told c.course.desk'.told asked.file
          kept);
      ends =
          inr (record {
            end = out_of_memory;
            cause = without_memory (output, kept);
            said = said;
          });
      stops_printing = stopped_with c code out_of_memory (without_memory (output, kept));
      fails_in_printing = failed_with c code out_of_memory (without_memory (output, kept)) said;
      complete = λ _ _. inr (inr (inr one));
      complete_verdict = λ _ _ _. inr (inr one);
      complete_check = λ _ _ _. inr (inr (inr one));
      complete_path = λ _ _. inr (inr one);
      complete_drill = λ _ _. inr (inl one);
      bad_words = λ _. inr one;
      others = kept_others (IsWrittenFile c.words) c.course.desk.told c.course.desk'.told kept;
      files = λ _. kept;
    }
