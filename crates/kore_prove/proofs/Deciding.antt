-- From the parts of a check to what it printed.
use Rattle.std.proofs.Common.{◌≡◌, ℕ, ◌⊎◌, inl, inr, List, Option, subst, arith}
use Rattle.desk_io.specs.Told.{Told}
use Rattle.desk_io.specs.MissingFiles.{Lacks, HoldsMore}
use Rattle.desk_io.specs.SinkChanges.{AppendsFront}
use Rattle.desk_io.specs.declared.desk.DeskFault.{DeskFault}
use Rattle.desk_io.specs.declared.desk.DeskFault.TheVariants as fault
use Rattle.kore_prove.specs.declared.checking.Decision.{Decision}
use Rattle.kore_prove.specs.declared.checking.Decision.TheVariants as decision
use Rattle.kore_prove.specs.BegunLines.{BeginsCheck}
use Rattle.kore_prove.specs.Causes.{HasProgram, ReadCause, CheckReadCause, CheckCause, DatabaseCause}
use Rattle.kore_prove.specs.Causes.{check_unprinted}
use Rattle.kore_prove.specs.Checks.{SendsJustified, SendsUnjustified, SendsFault, PrintsCheck}
use Rattle.kore_prove.specs.CheckWords.{CheckRequest, IsCheck}
use Rattle.kore_prove.specs.CountedFaults.{CountsOutputFault}
use Rattle.kore_prove.specs.Courses.{Course, Call}
use Rattle.kore_prove.specs.Decisions.{HoldsDecision, SendsDecision, PrintsDecision}
use Rattle.kore_prove.specs.Decisions.{decision_lines, decision_code}
use Rattle.kore_prove.specs.FileCauses.{UnreadEnding, DefinitionEnding}
use Rattle.kore_prove.specs.PlainEnds.{fault_end}
use Rattle.kore_prove.specs.Reports.{Ending, out_of_memory, bad_words, read_fault, write_fault}
use Rattle.kore_prove.specs.Reports.{no_such_file, definition_refused, term_refused, too_large}
use Rattle.kore_prove.specs.Reports.{hints_refused}
use Rattle.kore_prove.specs.RunWords.{RunRequest}
use Rattle.kore_prove.specs.Limits.{definition_limit}
use Rattle.kore_prove.specs.Verdicts.{database_limit}
use Rattle.kore_prove.proofs.CommandWords.{one_check}
use Rattle.kore_prove.proofs.Ending.{stops}
use Rattle.desk_io.specs.Sent.{Appends}

-- a definition that was not read as a whole was not accepted
pub unread_definition : (told : Option Told) (name : List ℕ) (reads reads' : ℕ) (e : Ending)
    → UnreadEnding told name definition_limit reads reads' e
    → DefinitionEnding told name reads reads' e
unread_definition told name reads reads' out_of_memory h = h
unread_definition told name reads reads' bad_words h = h
unread_definition told name reads reads' read_fault h = h
unread_definition told name reads reads' write_fault h = h
unread_definition told name reads reads' (no_such_file other) h = h
unread_definition told name reads reads' (definition_refused number byte) h = absurd h
unread_definition told name reads reads' (term_refused number byte) h = h
unread_definition told name reads reads' (too_large other) h = h
unread_definition told name reads reads' (hints_refused number line) h = h

-- the cause of an end at the definition is a cause of the end of a run, and of a check
pub definition_of_run : (asked : RunRequest) (told : Option Told) (reads reads' : ℕ) (e : Ending)
    → DefinitionEnding told asked.definition reads reads' e → ReadCause asked told reads reads' e
definition_of_run asked told reads reads' out_of_memory h = tt
definition_of_run asked told reads reads' bad_words h = h
definition_of_run asked told reads reads' read_fault h = h
definition_of_run asked told reads reads' write_fault h = h
definition_of_run asked told reads reads' (no_such_file name) h = inl h
definition_of_run asked told reads reads' (definition_refused number byte) h = h
definition_of_run asked told reads reads' (term_refused number byte) h = absurd h
definition_of_run asked told reads reads' (too_large name) h = inl h
definition_of_run asked told reads reads' (hints_refused number line) h = h

pub definition_of_check : (asked : CheckRequest) (told : Option Told) (reads reads' : ℕ)
    (e : Ending) → DefinitionEnding told asked.definition reads reads' e
    → CheckReadCause asked told reads reads' e
definition_of_check asked told reads reads' out_of_memory h = tt
definition_of_check asked told reads reads' bad_words h = h
definition_of_check asked told reads reads' read_fault h = h
definition_of_check asked told reads reads' write_fault h = h
definition_of_check asked told reads reads' (no_such_file name) h = inl h
definition_of_check asked told reads reads' (definition_refused number byte) h = h
definition_of_check asked told reads reads' (term_refused number byte) h = h
definition_of_check asked told reads reads' (too_large name) h = inl h
definition_of_check asked told reads reads' (hints_refused number line) h = h

-- the cause of an end at the database is a cause of the end of a check, and of a verification
pub database_of_check : (asked : CheckRequest) (told : Option Told) (reads reads' : ℕ) (e : Ending)
    → HasProgram asked.definition told → UnreadEnding told asked.file database_limit reads reads' e
    → CheckReadCause asked told reads reads' e
database_of_check asked told reads reads' out_of_memory has h = tt
database_of_check asked told reads reads' bad_words has h = h
database_of_check asked told reads reads' read_fault has h = h
database_of_check asked told reads reads' write_fault has h = h
database_of_check asked told reads reads' (no_such_file name) has h = inr (h.0, has, h.1)
database_of_check asked told reads reads' (definition_refused number byte) has h = absurd h
database_of_check asked told reads reads' (term_refused number byte) has h = h
database_of_check asked told reads reads' (too_large name) has h = inr (h.0, has, h.1)
database_of_check asked told reads reads' (hints_refused number line) has h = h

pub database_of_verify : (file : List ℕ) (c : Course) (e : Ending)
    → UnreadEnding c.desk.told file database_limit c.desk.read_faults c.desk'.read_faults e
    → DatabaseCause file c e
database_of_verify file c out_of_memory h = tt
database_of_verify file c bad_words h = h
database_of_verify file c read_fault h = h
database_of_verify file c write_fault h = h
database_of_verify file c (no_such_file name) h = h
database_of_verify file c (definition_refused number byte) h = h
database_of_verify file c (term_refused number byte) h = h
database_of_verify file c (too_large name) h = h
database_of_verify file c (hints_refused number line) h = h

-- the lines of the decision were sent, or a part of them
decision_sent : (Grew : Option (List ℕ) → Option (List ℕ) → List ℕ → Type 0) (told : Option Told)
    (asked : CheckRequest) (before after : Option (List ℕ)) (d : Decision)
    → HoldsDecision told asked d → Grew before after (decision_lines d)
    → SendsDecision Grew told asked before after d
decision_sent Grew told asked before after (decision.Justified lines) h grew = record {
  theory = h.theory;
  bytes = h.bytes;
  held = h.held;
  names = h.is.names;
  from = h.is.from;
  to = h.is.to;
  justifies = h.is.justifies;
  derived = h.is.derived;
  lines = subst (λ (said : List ℕ). Grew before after said) h.is.lines_are grew;
}
decision_sent Grew told asked before after (decision.Invalid f) h grew = record {
  theory = h.theory;
  bytes = h.bytes;
  held = h.held;
  not_valid = h.is.not_valid;
  fault = f;
  first = h.is.first;
  line = grew;
}
decision_sent Grew told asked before after (decision.Unjustified offence at) h grew = record {
  theory = h.theory;
  bytes = h.bytes;
  held = h.held;
  valid = h.is.0;
  nothing = h.is.1;
  offence = offence;
  at = at;
  first = h.is.2;
  line = grew;
}

pub prints_decision : (told : Option Told) (asked : CheckRequest) (before after : Option (List ℕ))
    (d : Decision) → HoldsDecision told asked d → Appends before after (decision_lines d)
    → PrintsDecision told asked before after d
prints_decision told asked before after d h grew =
    decision_sent Appends told asked before after d h grew

begins_check : (c : Course) (asked : CheckRequest) (d : Decision)
    → SendsDecision AppendsFront c.desk.told asked c.out.bytes c.out'.bytes d
    → BeginsCheck asked c
begins_check c asked (decision.Justified lines) h = inl h
begins_check c asked (decision.Invalid f) h = inr (inl h)
begins_check c asked (decision.Unjustified offence at) h = inr (inr h)

-- the lines of the decision were not sent as a whole
pub decision_ended : (c : Course) (asked : CheckRequest) (d : Decision) (e : Ending) (f : DeskFault)
    → e ≡ fault_end f → HoldsDecision c.desk.told asked d
    → (f ≡ fault.Failed → CountsOutputFault c)
    → AppendsFront c.out.bytes c.out'.bytes (decision_lines d) → CheckCause asked c e
decision_ended c asked d e f is h rose grew =
    check_unprinted (begins_check c asked d
    (decision_sent AppendsFront c.desk.told asked c.out.bytes c.out'.bytes d h grew))
    (stops f e (CountsOutputFault c) is rose)

-- the exit code of a decision
pub code_of_decision : (d : Decision) (code : ℕ) → code ≡ decision_code d
    → (code ≡ 0) ⊎ (code ≡ 12) ⊎ (code ≡ 13)
code_of_decision (decision.Justified lines) code is = inl is
code_of_decision (decision.Invalid f) code is = inr (inl is)
code_of_decision (decision.Unjustified offence at) code is = inr (inr is)

pub prints_check : (c : Call) (asked : CheckRequest) (d : Decision) (code : ℕ)
    → IsCheck c.words asked
    → PrintsDecision c.course.desk.told asked c.course.out.bytes c.course.out'.bytes d
    → code ≡ decision_code d → PrintsCheck c code
prints_check c asked (decision.Justified lines) code command p is = λ asked' command'. (
  λ zero. subst (λ (a : CheckRequest). SendsJustified Appends c.course.desk.told a
      c.course.out.bytes c.course.out'.bytes)
      (one_check c.words asked asked' command command') p,
  λ twelve. absurd (omega (arith, is, twelve)),
  λ thirteen. absurd (omega (arith, is, thirteen)),
)
prints_check c asked (decision.Invalid f) code command p is = λ asked' command'. (
  λ zero. absurd (omega (arith, is, zero)),
  λ twelve. subst (λ (a : CheckRequest). SendsFault Appends c.course.desk.told a
      c.course.out.bytes c.course.out'.bytes)
      (one_check c.words asked asked' command command') p,
  λ thirteen. absurd (omega (arith, is, thirteen)),
)
prints_check c asked (decision.Unjustified offence at) code command p is = λ asked' command'. (
  λ zero. absurd (omega (arith, is, zero)),
  λ twelve. absurd (omega (arith, is, twelve)),
  λ thirteen. subst (λ (a : CheckRequest). SendsUnjustified Appends c.course.desk.told a
      c.course.out.bytes c.course.out'.bytes)
      (one_check c.words asked asked' command command') p,
)
