-- From the parts of a run command to its result.
use Rattle.std.proofs.Common.{◌≡◌, ℕ, inl, inr, List, Option, Some, None, IsSome}
use Rattle.std.proofs.Common.{[], ◌++◌, sym, subst}
use Rattle.std.proofs.lemmas.List.{append-nil}
use Rattle.desk_io.specs.Told.{Told, Holds}
use Rattle.desk_io.specs.KeptFiles.{KeepsFiles, KeepsOthers}
use Rattle.desk_io.specs.HeldFiles.{TellsNow}
use Rattle.desk_io.specs.Counts.{CountRose}
use Rattle.desk_io.specs.Sent.{Appends}
use Rattle.desk_io.specs.SinkChanges.{SameBytes, AppendsFront}
use Rattle.desk_io.specs.declared.desk.DeskFault.{DeskFault}
use Rattle.desk_io.specs.declared.desk.DeskFault.TheVariants as fault
use Rattle.term_core.specs.Patterns.{Pattern, ground_pattern}
use Rattle.rule_core.specs.Theories.{RewriteTheory}
use Rattle.rule_core.specs.Runs.{Run, stuck, limited, stopped, unstarted, IsRunOf}
use Rattle.rule_core.specs.WellSorted.{IsSignature, IsStart}
use Rattle.run_loop.specs.RunEnds.{IsSortedEnd}
use Rattle.kore_show.specs.ShownLaws.{SortedIsShown}
use Rattle.run_lines.specs.Lines.{kept_pattern}
use Rattle.run_proof.specs.StuckRuns.{IsShown}
use Rattle.kore_prove.specs.RunWords.{RunRequest}
use Rattle.kore_prove.specs.Files.{HoldsStart, HoldsRun}
use Rattle.kore_prove.specs.ProvedRun.{HasWantedProof}
use Rattle.kore_prove.specs.RunFronts.{LeavesFront}
use Rattle.kore_prove.specs.ProofFiles.{HasWantedFront, HasWantedHintFront}
use Rattle.kore_prove.specs.PrintedRun.{SendsLines, shown_line}
use Rattle.kore_prove.specs.ShownRun.{HasWantedShown}
use Rattle.kore_prove.specs.Causes.{ReadCause, run_unread, run_unproved, run_unprinted}
use Rattle.kore_prove.specs.Courses.{Course}
use Rattle.kore_prove.specs.CountedFaults.{CountsWriteFault, CountsOutputFault}
use Rattle.kore_prove.specs.PlainEnds.{fault_end}
use Rattle.kore_prove.specs.Reports.{Ending}
use Rattle.kore_prove.specs.HintedRun.{HasWantedHints}
use Rattle.kore_prove.specs.HintFronts.{LeavesHints}
use Rattle.kore_prove.specs.Requests.{bounds_of, IsWrittenBy}
use Rattle.kore_prove.specs.RunsDone.{HasLines, IsRunDone, IsRunEnded}
use Rattle.kore_prove.proofs.Ending.{stops}
use Rattle.kore_prove.proofs.FileProofs.{kept_others, then_others, kept_file, then_file}
use Rattle.run_proof.proofs.ClosedLaws.{proof_front}

-- what the run keeps has a Kore pattern
pub kept_shown : SortedIsShown → (theory : RewriteTheory) (start : Pattern) (run : Run)
    → IsSignature theory.sig → IsStart theory start → IsSortedEnd theory run
    → IsSome (kept_pattern theory.sig start run)
kept_shown law theory start (stuck n t) sig is h = law theory.sig (ground_pattern t) h.0 sig h.2
kept_shown law theory start (limited n t) sig is h = law theory.sig (ground_pattern t) h.0 sig h.2
kept_shown law theory start (stopped n cause t) sig is h =
    law theory.sig (ground_pattern t) h.0 sig h.2
kept_shown law theory start (unstarted cause) sig is h = law theory.sig start is.0 sig is.1

-- the term in the second file, as the first desk tells it
pub start_kept : (told read : Option Told) (name : List ℕ) (theory : RewriteTheory) (top : Option ℕ)
    (start : Pattern) → KeepsFiles told read → HoldsStart read name theory top start
    → HoldsStart told name theory top start
start_kept None read name theory top start kept s = record {
  bytes = s.bytes;
  held = (tt, s.held.1);
  accepted = s.accepted;
}
start_kept (Some told) read name theory top start kept s =
    let P : Option Told → Type 0 = λ o. Holds o name s.bytes in
    record { bytes = s.bytes; held = (subst P kept.1 s.held.0, s.held.1); accepted = s.accepted }

-- a proof that is told after the files were read
pub told_now : (told read told' : Option Told) (file bytes : List ℕ) → KeepsFiles told read
    → TellsNow read told' file bytes → TellsNow told told' file bytes
told_now None read told' file bytes kept h = tt
told_now (Some told) read told' file bytes kept h =
    subst (λ (o : Option Told). TellsNow o told' file bytes) kept.1 h

proof_kept : (proof : Option (List ℕ)) (told read told' : Option Told) (theory : RewriteTheory)
    (start : Pattern) (run : Run) → KeepsFiles told read
    → HasWantedProof proof read told' theory start run
    → HasWantedProof proof told told' theory start run
proof_kept None told read told' theory start run kept h = tt
proof_kept (Some file) told read told' theory start run kept h =
    record {
      bytes = h.bytes;
      held = told_now told read told' file h.bytes kept h.held;
      proves = h.proves;
    }

shown_kept : (proof : Option (List ℕ)) (told read told' : Option Told) (theory : RewriteTheory)
    (run : Run) (shown : Option ℕ) → KeepsFiles told read
    → HasWantedShown proof read told' theory run shown
    → HasWantedShown proof told told' theory run shown
shown_kept None told read told' theory run shown kept h = tt
shown_kept (Some file) told read told' theory run shown kept h =
    record {
      bytes = h.bytes;
      held = told_now told read told' file h.bytes kept h.held;
      shows = h.shows;
    }

-- the front of a proof, for the desk before the files were read
pub left_front : (asked : RunRequest) (told read told' : Option Told) (theory : RewriteTheory)
    (start : Pattern) → HoldsRun asked told theory start → KeepsFiles told read
    → HasWantedFront asked.proof read told' theory asked.limit asked.calls start
    → LeavesFront asked told told'
left_front asked told read told' theory start held kept h = λ file wanted. (
    let front : HasWantedFront (Some file) read told' theory asked.limit asked.calls start =
    subst (λ (p : Option (List ℕ)). HasWantedFront p read told' theory asked.limit asked.calls start)
    wanted h in
    elim front [
      | inl same ↦ inl (then_file told read told' file kept same)
      | inr made ↦ inr (record {
        theory = theory;
        start = start;
        of_files = held;
        holds = record {
          bytes = made.bytes;
          held = told_now told read told' file made.bytes kept made.held;
          front = made.front;
        };
      })
    ])

-- a whole proof of the run is a front of one
pub proof_is_front : (proof : Option (List ℕ)) (told told' : Option Told) (theory : RewriteTheory)
    (limit calls : ℕ) (start : Pattern) (run : Run) → IsRunOf theory limit calls start run
    → HasWantedProof proof told told' theory start run
    → HasWantedFront proof told told' theory limit calls start
proof_is_front None told told' theory limit calls start run is h = tt
proof_is_front (Some file) told told' theory limit calls start run is h =
    inr (record {
      bytes = h.bytes;
      held = h.held;
      front = inr (proof_front theory limit calls start run h.bytes is h.proves);
    })

-- the hints, for the desk before the files were read
pub hints_kept : (hints : Option (List ℕ)) (told read told' : Option Told) (theory : RewriteTheory)
    (calls : ℕ) (start : Pattern) (run : Run) → KeepsFiles told read
    → HasWantedHints hints read told' theory calls start run
    → HasWantedHints hints told told' theory calls start run
hints_kept None told read told' theory calls start run kept h = tt
hints_kept (Some file) told read told' theory calls start run kept h = record {
  text = h.text;
  held = told_now told read told' file h.text kept h.held;
  is_text = h.is_text;
}

-- the front of the hints, for the desk before the files were read
pub left_hints : (asked : RunRequest) (told read told' : Option Told) (theory : RewriteTheory)
    (start : Pattern) → HoldsRun asked told theory start → KeepsFiles told read
    → HasWantedHintFront asked.hints read told' theory asked.limit asked.calls start
    → LeavesHints asked told told'
left_hints asked told read told' theory start held kept h = λ file wanted. (
    let front : HasWantedHintFront (Some file) read told' theory asked.limit asked.calls start =
    subst
    (λ (p : Option (List ℕ)).
    HasWantedHintFront p read told' theory asked.limit asked.calls start)
    wanted h in
    elim front [
      | inl same ↦ inl (then_file told read told' file kept same)
      | inr made ↦ inr (record {
        theory = theory;
        start = start;
        of_files = held;
        holds = record {
          run = made.run;
          is_run = made.is_run;
          text = made.text;
          is_text = made.is_text;
          holds = (
            made.holds.0,
            made.holds.1,
            made.holds.2,
            told_now told read told' file made.holds.0 kept made.holds.3,
          );
        };
      })
    ])

-- the whole hints of the run are a front of them
pub hints_are_front : (hints : Option (List ℕ)) (told told' : Option Told) (theory : RewriteTheory)
    (limit calls : ℕ) (start : Pattern) (run : Run) → IsRunOf theory limit calls start run
    → HasWantedHints hints told told' theory calls start run
    → HasWantedHintFront hints told told' theory limit calls start
hints_are_front None told told' theory limit calls start run is h = tt
hints_are_front (Some file) told told' theory limit calls start run is h =
    inr (record {
      run = run;
      is_run = is;
      text = h.text;
      is_text = h.is_text;
      holds = (h.text, [], sym (append-nil h.text), h.held);
    })

-- the lines of the run were sent, or a part of them
lines_sent : (Grew : Option (List ℕ) → Option (List ℕ) → List ℕ → Type 0) (asked : RunRequest)
    (c : Course) (theory : RewriteTheory) (start : Pattern) (run : Run) (lines : List ℕ)
    (shown : Option ℕ) → HoldsRun asked c.desk.told theory start
    → HasLines (bounds_of asked) theory start run lines → IsShown asked.stuck theory run shown
    → Grew c.out.bytes c.out'.bytes (lines ++ shown_line asked.stuck shown)
    → SendsLines Grew c.desk.told asked c.out.bytes c.out'.bytes theory start run
lines_sent Grew asked c theory start run lines shown held h is_shown grew = record {
  of_files = record { files = held; is_run = h.is_run };
  lines = lines;
  lines_are = h.lines_are;
  shown = shown;
  is_shown = is_shown;
  grew = grew;
}

-- the run was printed
pub run_done : (asked : RunRequest) (c : Course) (read : Option Told) (theory : RewriteTheory)
    (start : Pattern) (run : Run) (lines : List ℕ) (shown : Option ℕ)
    → HoldsRun asked c.desk.told theory start → KeepsFiles c.desk.told read
    → HasLines (bounds_of asked) theory start run lines → IsShown asked.stuck theory run shown
    → HasWantedProof asked.proof read c.desk'.told theory start run
    → HasWantedShown asked.proof read c.desk'.told theory run shown
    → HasWantedHints asked.hints read c.desk'.told theory asked.calls start run
    → KeepsOthers (IsWrittenBy asked) read c.desk'.told
    → Appends c.out.bytes c.out'.bytes (lines ++ shown_line asked.stuck shown)
    → IsRunDone asked c run
unfolding lines_sent
run_done asked c read theory start run lines shown held kept h is_shown proof shows hints others
    grew = record {
      theory = theory;
      start = start;
      printed = lines_sent Appends asked c theory start run lines shown held h is_shown grew;
      proof = proof_kept asked.proof c.desk.told read c.desk'.told theory start run kept proof;
      shows = shown_kept asked.proof c.desk.told read c.desk'.told theory run shown kept shows;
      hints =
          hints_kept asked.hints c.desk.told read c.desk'.told theory asked.calls start run kept hints;
      others = then_others (IsWrittenBy asked) c.desk.told read c.desk'.told kept others;
    }

-- the files do not give a run
pub read_ended : (asked : RunRequest) (c : Course) (e : Ending)
    → SameBytes c.out.bytes c.out'.bytes → ReadCause asked c.desk.told c.desk.read_faults
    c.desk'.read_faults e
    → KeepsFiles c.desk.told c.desk'.told → IsRunEnded asked c e
read_ended asked c e same cause kept = record {
  cause = run_unread cause (same, kept);
  front = λ file wanted. inl (kept_file c.desk.told c.desk'.told file kept);
  hint_front = λ file wanted. inl (kept_file c.desk.told c.desk'.told file kept);
  others = kept_others (IsWrittenBy asked) c.desk.told c.desk'.told kept;
}

-- the run was not proved
pub proof_ended : (asked : RunRequest) (c : Course) (e : Ending) (f : DeskFault)
    (read : Option Told) (theory : RewriteTheory) (start : Pattern) → e ≡ fault_end f
    → HoldsRun asked c.desk.told theory start → KeepsFiles c.desk.told read
    → HasWantedFront asked.proof read c.desk'.told theory asked.limit asked.calls start
    → HasWantedHintFront asked.hints read c.desk'.told theory asked.limit asked.calls start
    → KeepsOthers (IsWrittenBy asked) read c.desk'.told
    → (f ≡ fault.Failed → CountsWriteFault c)
    → SameBytes c.out.bytes c.out'.bytes → IsRunEnded asked c e
proof_ended asked c e f read theory start is held kept front hints others rose same = record {
  cause = run_unproved (theory, start, held) (stops f e (CountsWriteFault c) is rose) same;
  front = left_front asked c.desk.told read c.desk'.told theory start held kept front;
  hint_front = left_hints asked c.desk.told read c.desk'.told theory start held kept hints;
  others = then_others (IsWrittenBy asked) c.desk.told read c.desk'.told kept others;
}

-- the lines of the run were not sent as a whole
pub lines_ended : (asked : RunRequest) (c : Course) (e : Ending) (f : DeskFault)
    (read : Option Told) (theory : RewriteTheory) (start : Pattern) (run : Run) (lines : List ℕ)
    (shown : Option ℕ) → e ≡ fault_end f → HoldsRun asked c.desk.told theory start
    → KeepsFiles c.desk.told read → HasLines (bounds_of asked) theory start run lines
    → IsShown asked.stuck theory run shown
    → HasWantedProof asked.proof read c.desk'.told theory start run
    → HasWantedShown asked.proof read c.desk'.told theory run shown
    → HasWantedHints asked.hints read c.desk'.told theory asked.calls start run
    → KeepsOthers (IsWrittenBy asked) read c.desk'.told
    → (f ≡ fault.Failed → CountsOutputFault c)
    → AppendsFront c.out.bytes c.out'.bytes (lines ++ shown_line asked.stuck shown)
    → IsRunEnded asked c e
unfolding lines_sent
lines_ended asked c e f read theory start run lines shown is held kept h is_shown proof shows hints
    others rose grew =
    record {
      cause =
          run_unprinted (record {
            theory = theory;
            start = start;
            run = run;
            begun =
                lines_sent AppendsFront asked c theory start run lines shown held h is_shown grew;
            proof =
                proof_kept asked.proof c.desk.told read c.desk'.told theory start run kept proof;
            shows =
                shown_kept asked.proof c.desk.told read c.desk'.told theory run shown kept shows;
            hints =
                hints_kept asked.hints c.desk.told read c.desk'.told theory asked.calls start run
                kept hints;
          }) (stops f e (CountsOutputFault c) is rose);
      front =
          left_front asked c.desk.told read c.desk'.told theory start held kept
          (proof_is_front asked.proof read c.desk'.told theory asked.limit asked.calls start run
          h.is_run proof);
      hint_front =
          left_hints asked c.desk.told read c.desk'.told theory start held kept
          (hints_are_front asked.hints read c.desk'.told theory asked.limit asked.calls start run
          h.is_run hints);
      others = then_others (IsWrittenBy asked) c.desk.told read c.desk'.told kept others;
    }

-- a count of faults in writing, compared with the count before the files were read
pub rose_files : (a b c : ℕ) → b ≡ a → CountRose b c → CountRose a c
rose_files a b c same rose = subst (λ (n : ℕ). CountRose n c) same rose
