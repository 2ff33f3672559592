-- From the parts of a drill to its result.
use Rattle.std.proofs.Common.{◌≡◌, ℕ, ◌+◌, ◌≤◌, ◌<◌, ◌^◌, arith, inl, inr, List, ◌++◌, Option}
use Rattle.std.proofs.Common.{refl, ◌∙◌, ap, subst}
use Rattle.desk_io.specs.Told.{Told}
use Rattle.desk_io.specs.KeptFiles.{KeepsFiles, KeepsOthers}
use Rattle.desk_io.specs.Sent.{Appends}
use Rattle.desk_io.specs.SinkChanges.{SameBytes, AppendsFront}
use Rattle.desk_io.specs.declared.desk.DeskFault.{DeskFault}
use Rattle.desk_io.specs.declared.desk.DeskFault.TheVariants as fault
use Rattle.term_core.specs.Patterns.{Pattern}
use Rattle.rule_core.specs.Theories.{RewriteTheory}
use Rattle.rule_core.specs.Runs.{Run}
use Rattle.drill_gen.specs.Drill.{drill_definition, drill_term}
use Rattle.kore_axioms.specs.declared.refusals.Refusal.{Refusal}
use Rattle.kore_axioms.specs.declared.refusals.Refusal.TheVariants as refusal
use Rattle.kore_sig.specs.FirstFault.{Fault}
use Rattle.kore_rules.specs.Acceptance.{IsAccepted, IsAcceptedTerm}
use Rattle.kore_rules.specs.RefusedTexts.{RefusesFor}
use Rattle.mm_justify.specs.Counting.{fact_count, statement_count, capped}
use Rattle.prove_run.specs.Summaries.{IsSummaryOf}
use Rattle.prove_run.specs.declared.summaries.Summary.{Summary}
use Rattle.kore_prove.specs.DrillWords.{DrillRequest}
use Rattle.kore_prove.specs.ProofFiles.{HoldsCounted, MayHoldFront}
use Rattle.kore_prove.specs.DrillProgram.{IsDrillProgram}
use Rattle.kore_prove.specs.DrilledRun.{SendsDrill, IsDrilled, LeavesDrill, counts_line}
use Rattle.kore_prove.specs.DrilledRun.{counts_line_of, drill_calls}
use Rattle.kore_prove.specs.Reports.{Ending, out_of_memory}
use Rattle.kore_prove.specs.PlainEnds.{fault_end}
use Rattle.kore_prove.specs.Causes.{drill_unmade, drill_unproved, drill_unprinted}
use Rattle.kore_prove.specs.Courses.{Course}
use Rattle.kore_prove.specs.CountedFaults.{CountsWriteFault, CountsOutputFault}
use Rattle.kore_prove.specs.Requests.{IsDrillFile}
use Rattle.kore_prove.specs.RunsDone.{HasLines, IsDrillDone, IsDrillEnded}
use Rattle.kore_prove.proofs.Ending.{stops}
use Rattle.kore_prove.proofs.FileProofs.{kept_file, kept_others, counted_front}
use Rattle.run_proof.proofs.ClosedLaws.{proof_front}

-- 1 MiB is less than the greatest length of a text
pub few_bytes : (n : ℕ) → n ≤ 2 ^ 20 → n < 2 ^ 32
few_bytes n h = omega (arith, h)

-- what is refused for no fault was not refused
pub refused_for_none : (P : Fault → Type 0) (r : Refusal) → ((f : Fault) → P f → ⊥) → RefusesFor P r
    → RefusesFor (λ _. ⊥) r
refused_for_none P (refusal.Refused number byte) none h =
    none (record { number = number; byte = byte }) h
refused_for_none P refusal.Memory none h = tt

-- the texts of a drill that were accepted
pub texts_accepted : (steps : ℕ) (definition term : List ℕ) (theory : RewriteTheory)
    (top : Option ℕ) (start : Pattern) → definition ≡ drill_definition steps → term ≡ drill_term
    → IsAccepted definition theory top → IsAcceptedTerm theory.sig top term start
    → IsDrillProgram steps theory start
texts_accepted steps definition term theory top start is is_term accepted accepted_term = record {
  top = top;
  definition = subst (λ (bytes : List ℕ). IsAccepted bytes theory top) is accepted;
  term =
      subst (λ (bytes : List ℕ). IsAcceptedTerm theory.sig top bytes start) is_term accepted_term;
}

-- the line of the counts is the one of the database
counts_are : (database : List ℕ) (s : Summary) → IsSummaryOf database s
    → counts_line s.facts s.statements s.bytes ≡ counts_line_of database
counts_are database s h =
    ap (λ (n : ℕ). counts_line n s.statements s.bytes) h.counts.facts_are
    ∙ ap (λ (n : ℕ). counts_line (capped (fact_count database)) n s.bytes) h.counts.statements_are
    ∙ ap (λ (n : ℕ).
    counts_line (capped (fact_count database)) (capped (statement_count database)) n)
    h.bytes_are

-- the lines of the drill were sent, or a part of them
drill_sent : (Grew : Option (List ℕ) → Option (List ℕ) → List ℕ → Type 0) (asked : DrillRequest)
    (c : Course) (theory : RewriteTheory) (start : Pattern) (run : Run) (lines : List ℕ)
    (shown : Option ℕ) (s : Summary) → IsDrillProgram asked.steps theory start
    → HasLines (record { limit = asked.steps + 1; calls = drill_calls }) theory start run lines
    → HoldsCounted c.desk.told c.desk'.told asked.file theory start run shown s
    → Grew c.out.bytes c.out'.bytes (lines ++ counts_line s.facts s.statements s.bytes)
    → SendsDrill Grew asked c.desk.told c.desk'.told c.out.bytes c.out'.bytes
drill_sent Grew asked c theory start run lines shown s program h held grew = record {
  theory = theory;
  start = start;
  program = program;
  run = run;
  is_run = h.is_run;
  proof = held.proof;
  lines = lines;
  lines_are = h.lines_are;
  grew =
      subst (λ (line : List ℕ). Grew c.out.bytes c.out'.bytes (lines ++ line))
      (counts_are held.proof.bytes s held.counted) grew;
}

-- the drill was made and printed
pub drill_made : (asked : DrillRequest) (c : Course) (theory : RewriteTheory) (start : Pattern)
    (run : Run) (lines : List ℕ) (shown : Option ℕ) (s : Summary)
    → IsDrillProgram asked.steps theory start
    → HasLines (record { limit = asked.steps + 1; calls = drill_calls }) theory start run lines
    → HoldsCounted c.desk.told c.desk'.told asked.file theory start run shown s
    → KeepsOthers (IsDrillFile asked) c.desk.told c.desk'.told
    → Appends c.out.bytes c.out'.bytes (lines ++ counts_line s.facts s.statements s.bytes)
    → IsDrillDone asked c
drill_made asked c theory start run lines shown s program h held others grew = record {
  drilled = drill_sent Appends asked c theory start run lines shown s program h held grew;
  others = others;
}

-- memory ran out before it was run
pub texts_ended : (asked : DrillRequest) (c : Course) → SameBytes c.out.bytes c.out'.bytes
    → KeepsFiles c.desk.told c.desk'.told → IsDrillEnded asked c out_of_memory
texts_ended asked c same kept = record {
  cause = drill_unmade refl (same, kept);
  front = inl (kept_file c.desk.told c.desk'.told asked.file kept);
  others = kept_others (IsDrillFile asked) c.desk.told c.desk'.told kept;
}

left_drill : (asked : DrillRequest) (told told' : Option Told) (theory : RewriteTheory)
    (start : Pattern) → IsDrillProgram asked.steps theory start
    → MayHoldFront told told' asked.file theory (asked.steps + 1) drill_calls start
    → LeavesDrill asked told told'
left_drill asked told told' theory start program (inl same) = inl same
left_drill asked told told' theory start program (inr made) =
    inr (record { theory = theory; start = start; program = program; holds = made })

-- the drill was not proved
pub drill_ended_unproved : (asked : DrillRequest) (c : Course) (e : Ending) (f : DeskFault)
    (theory : RewriteTheory) (start : Pattern) → e ≡ fault_end f
    → IsDrillProgram asked.steps theory start → MayHoldFront c.desk.told c.desk'.told asked.file
    theory (asked.steps + 1) drill_calls start
    → KeepsOthers (IsDrillFile asked) c.desk.told c.desk'.told
    → (f ≡ fault.Failed → CountsWriteFault c)
    → SameBytes c.out.bytes c.out'.bytes → IsDrillEnded asked c e
drill_ended_unproved asked c e f theory start is program front others rose same = record {
  cause = drill_unproved (theory, start, program) (stops f e (CountsWriteFault c) is rose) same;
  front = left_drill asked c.desk.told c.desk'.told theory start program front;
  others = others;
}

-- the lines of the drill were not sent as a whole
pub drill_ended_unprinted : (asked : DrillRequest) (c : Course) (e : Ending) (f : DeskFault)
    (theory : RewriteTheory) (start : Pattern) (run : Run) (lines : List ℕ) (shown : Option ℕ)
    (s : Summary) → e ≡ fault_end f → IsDrillProgram asked.steps theory start
    → HasLines (record { limit = asked.steps + 1; calls = drill_calls }) theory start run lines
    → HoldsCounted c.desk.told c.desk'.told asked.file theory start run shown s
    → KeepsOthers (IsDrillFile asked) c.desk.told c.desk'.told
    → (f ≡ fault.Failed → CountsOutputFault c)
    → AppendsFront c.out.bytes c.out'.bytes (lines ++ counts_line s.facts s.statements s.bytes)
    → IsDrillEnded asked c e
drill_ended_unprinted asked c e f theory start run lines shown s is program h held others rose grew =
    record {
      cause =
          drill_unprinted
          (drill_sent AppendsFront asked c theory start run lines shown s program h held grew)
          (stops f e (CountsOutputFault c) is rose);
      front =
          left_drill asked c.desk.told c.desk'.told theory start program
          (counted_front c.desk.told c.desk'.told asked.file theory (asked.steps + 1) drill_calls
          start run shown s h.is_run held);
      others = others;
    }

-- after a drill its file holds the front of a proof
pub drilled_front : (asked : DrillRequest) (told told' : Option Told)
    (before after : Option (List ℕ)) → IsDrilled asked told told' before after
    → LeavesDrill asked told told'
drilled_front asked told told' before after d = inr (record {
  theory = d.theory;
  start = d.start;
  program = d.program;
  holds = record {
    bytes = d.proof.bytes;
    held = d.proof.held;
    front =
        inr (proof_front d.theory (asked.steps + 1) drill_calls d.start d.run d.proof.bytes d.is_run
        d.proof.proves);
  };
})
