-- From the parts of a verification to what it printed.
use Rattle.std.proofs.Common.{◌≡◌, ℕ, ◌⊎◌, inl, inr, List, Option, None, Some, ◌∙◌, ap, subst}
use Rattle.std.proofs.Common.{arith}
use Rattle.desk_io.specs.Told.{Told}
use Rattle.desk_io.specs.Sent.{Appends}
use Rattle.desk_io.specs.SinkChanges.{AppendsFront}
use Rattle.desk_io.specs.declared.desk.DeskFault.{DeskFault}
use Rattle.desk_io.specs.declared.desk.DeskFault.TheVariants as fault
use Rattle.mm_text.specs.Statements.{statements_of}
use Rattle.mm_text.specs.declared.fault.MmFault.{MmFault}
use Rattle.mm_database.specs.Database.{empty_context}
use Rattle.mm_database.specs.Assertions.{axiom_count, theorem_count}
use Rattle.mm_database.specs.Validity.{IsFirstFault}
use Rattle.mm_database.proofs.Faults.{valid_faultless, computed-IsFirstFaultIn}
use Rattle.kore_prove.specs.declared.verification.Verdict.{Verdict}
use Rattle.kore_prove.specs.declared.verification.Verdict.TheVariants as verdict
use Rattle.kore_prove.specs.VerifyWords.{IsVerify}
use Rattle.kore_prove.specs.DatabaseVerdicts.{IsInvalidBy, HoldsDatabase, SendsVerdictOn}
use Rattle.kore_prove.specs.DatabaseVerdicts.{PrintsVerdictOn, verdict_line, verdict_code}
use Rattle.kore_prove.specs.BegunLines.{BeginsVerdict}
use Rattle.kore_prove.specs.Causes.{VerifyCause, verdict_unprinted}
use Rattle.kore_prove.specs.CountedFaults.{CountsOutputFault}
use Rattle.kore_prove.specs.Courses.{Course, Call}
use Rattle.kore_prove.specs.PlainEnds.{fault_end}
use Rattle.kore_prove.specs.Reports.{Ending}
use Rattle.kore_prove.specs.Verdicts.{SaysValid, SaysInvalid, PrintsVerdict, valid_line}
use Rattle.kore_prove.proofs.CommandWords.{one_file}
use Rattle.kore_prove.proofs.Ending.{stops}
use Rattle.mm_database.specs.ComputedFault.{first_fault}

-- bytes with a first fault are not a valid database
pub invalid_by : (bytes : List ℕ) (f : MmFault) → IsFirstFault bytes f → IsInvalidBy bytes f
invalid_by bytes f first = record {
  not_valid = λ valid. (
      let none : first_fault bytes ≡ None = valid_faultless bytes valid in
      let some : first_fault bytes ≡ Some f =
      computed-IsFirstFaultIn empty_context (statements_of bytes) f first in
      cc);
  first = first;
}

-- the counts of a database are the ones of a report
valid_line_is : (bytes : List ℕ) (axioms theorems : ℕ) → axioms ≡ axiom_count bytes
    → theorems ≡ theorem_count bytes
    → valid_line axioms theorems ≡ valid_line (axiom_count bytes) (theorem_count bytes)
valid_line_is bytes axioms theorems same same' =
    ap (λ (n : ℕ). valid_line n theorems) same
    ∙ ap (λ (n : ℕ). valid_line (axiom_count bytes) n) same'

-- the line of the verdict on the file was sent, or a part of it
verdict_sent : (Grew : Option (List ℕ) → Option (List ℕ) → List ℕ → Type 0) (told : Option Told)
    (file : List ℕ) (before after : Option (List ℕ)) (v : Verdict) → HoldsDatabase told file v
    → Grew before after (verdict_line v) → SendsVerdictOn Grew file told before after v
verdict_sent Grew told file before after (verdict.Valid report) h line = record {
  bytes = h.0;
  held = h.1;
  valid = h.2.0;
  line =
      subst (λ (said : List ℕ). Grew before after said)
      (valid_line_is h.0 report.axioms report.theorems h.2.1 h.2.2) line;
}
verdict_sent Grew told file before after (verdict.Invalid fault) h line = record {
  bytes = h.0;
  held = h.1;
  not_valid = h.2.not_valid;
  fault = fault;
  first = h.2.first;
  line = line;
}

pub prints_verdict_on : (told : Option Told) (file : List ℕ) (before after : Option (List ℕ))
    (v : Verdict) → HoldsDatabase told file v → Appends before after (verdict_line v)
    → PrintsVerdictOn file told before after v
prints_verdict_on told file before after v h line =
    verdict_sent Appends told file before after v h line

begins_verdict : (c : Course) (file : List ℕ) (v : Verdict)
    → SendsVerdictOn AppendsFront file c.desk.told c.out.bytes c.out'.bytes v
    → BeginsVerdict file c
begins_verdict c file (verdict.Valid report) h = inl h
begins_verdict c file (verdict.Invalid fault) h = inr h

-- the line of the verdict was not sent as a whole
pub verdict_ended : (c : Course) (file : List ℕ) (v : Verdict) (e : Ending) (f : DeskFault)
    → e ≡ fault_end f → HoldsDatabase c.desk.told file v
    → (f ≡ fault.Failed → CountsOutputFault c)
    → AppendsFront c.out.bytes c.out'.bytes (verdict_line v) → VerifyCause file c e
verdict_ended c file v e f is h rose grew =
    verdict_unprinted (begins_verdict c file v
    (verdict_sent AppendsFront c.desk.told file c.out.bytes c.out'.bytes v h grew))
    (stops f e (CountsOutputFault c) is rose)

-- the exit code of a verdict
pub code_of_verdict : (v : Verdict) (code : ℕ) → code ≡ verdict_code v → (code ≡ 0) ⊎ (code ≡ 12)
code_of_verdict (verdict.Valid report) code is = inl is
code_of_verdict (verdict.Invalid fault) code is = inr is

pub prints_verdict : (c : Call) (file : List ℕ) (v : Verdict) (code : ℕ) → IsVerify c.words file
    → PrintsVerdictOn file c.course.desk.told c.course.out.bytes c.course.out'.bytes v
    → code ≡ verdict_code v → PrintsVerdict c code
prints_verdict c file (verdict.Valid report) code command p is = λ file' command'. (
  λ zero. subst (λ (name : List ℕ).
      SaysValid c.course.desk.told name c.course.out.bytes c.course.out'.bytes)
      (one_file c.words file file' command command') p,
  λ twelve. absurd (omega (arith, is, twelve)),
)
prints_verdict c file (verdict.Invalid fault) code command p is = λ file' command'. (
  λ zero. absurd (omega (arith, is, zero)),
  λ twelve. subst (λ (name : List ℕ).
      SaysInvalid c.course.desk.told name c.course.out.bytes c.course.out'.bytes)
      (one_file c.words file file' command command') p,
)
