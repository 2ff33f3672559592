use Rattle.std.proofs.Common.{◌≡◌, ℕ, subst}
use Rattle.std.specs.Prelude.{Some}
use Rattle.mm_text.specs.Reader.{statement_of}
use Rattle.mm_database.specs.Forms.{form_of}
use Rattle.mm_scope.specs.FormsRead.{form_read}
use Rattle.mm_scope.specs.declared.forms.Form.{Form}
use Rattle.mm_scope.specs.ScopeState.{scope_state}
use Rattle.mm_check.specs.AxiomsView.{theory_for}
use Rattle.mm_check.specs.Passing.{NotesForm, form_said}
use Rattle.mm_check.proofs.StepLaws.{fault_never, labelled, said_by, steps_as, taken}
use Rattle.mm_check.proofs.steps.step.Goals as goal

pub returns-in-Err-Fault-clause-steps : goal.returns-in-Err-Fault-clause-steps
returns-in-Err-Fault-clause-steps c = λ d stands orderly fine.
    fault_never d (statement_of c.args.bytes.now c.args.tokens.now) (scope_state c.args.scopes.now)
    (scope_state c.statement.new.self) c.in-Err-Fault.field-0 c.in-Err-Fault.fault
    c.in-Err-Fault.field-0-is fine (c.in-Err-Fault.ensures.takes d stands)

pub noted-requires-clause-after : goal.noted-requires-clause-after
noted-requires-clause-after c =
    let said : form_of (statement_of c.args.bytes.now c.args.tokens.now).tokens
    ≡ Some (form_said c.args.bytes.now c.in-Some-Plain.plain) =
    subst (λ (f : Form). form_of (statement_of c.args.bytes.now c.args.tokens.now).tokens
    ≡ Some (form_read c.args.bytes.now f)) c.in-Some-Plain.field-0-is
    (said_by c.args.bytes.now c.args.tokens.now _ c.in-Some-Plain.ensures) in
    labelled c.proof_laws.ensures.orderly (statement_of c.args.bytes.now c.args.tokens.now)
    (scope_state c.args.scopes.now) (scope_state c.statement.new.self) c.requires.may
    c.args.bytes.now c.in-Some-Plain.plain
    (c.in-Ok.ensures.takes c.requires.may.context c.requires.may.stands).1 said

pub returns-in-Some-Plain-clause-steps : goal.returns-in-Some-Plain-clause-steps
returns-in-Some-Plain-clause-steps c = λ d stands orderly fine.
    let said : form_of (statement_of c.args.bytes.now c.args.tokens.now).tokens
    ≡ Some (form_said c.args.bytes.now c.in-Some-Plain.plain) =
    subst (λ (f : Form). form_of (statement_of c.args.bytes.now c.args.tokens.now).tokens
    ≡ Some (form_read c.args.bytes.now f)) c.in-Some-Plain.field-0-is
    (said_by c.args.bytes.now c.args.tokens.now _ c.in-Some-Plain.ensures) in
    let after = (c.in-Ok.ensures.takes d stands).1 in
    steps_as (theory_for c.args.axioms.now) d (statement_of c.args.bytes.now c.args.tokens.now)
    (scope_state c.statement.new.self) (form_said c.args.bytes.now c.in-Some-Plain.plain)
    c.noted.result said after
    (subst (λ (at : ℕ). NotesForm (theory_for c.args.axioms.now) d
    (form_said c.args.bytes.now c.in-Some-Plain.plain) at c.noted.result)
    (c.first_byte.ensures c.args.bytes.now)
    (c.noted.ensures.notes d
    (taken c.proof_laws.ensures.orderly d (statement_of c.args.bytes.now c.args.tokens.now)
    (scope_state c.statement.new.self) c.args.bytes.now c.in-Some-Plain.plain orderly fine after
    said)))
