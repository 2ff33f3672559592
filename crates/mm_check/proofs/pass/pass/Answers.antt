use Rattle.std.proofs.Common.{ap, sym, subst, List}
use Rattle.std.specs.Prelude.{Ok, Err}
use Rattle.mm_text.specs.Reader.{statements_left, statement_of, Finds}
use Rattle.mm_text.specs.declared.tokens.MmToken.{MmToken}
use Rattle.mm_text.specs.declared.statements.MmFound.{MmFound}
use Rattle.mm_text.specs.declared.statements.MmReadEnd.{MmReadEnd}
use Rattle.mm_scope.specs.ScopeState.{scope_state}
use Rattle.rule_core.specs.ProgramView.{theory_of}
use Rattle.rule_core.specs.Theories.{RewriteTheory}
use Rattle.mm_check.specs.AxiomsView.{theory_for}
use Rattle.mm_check.specs.Passing.{IsLastWith}
use Rattle.mm_check.proofs.PassLaws.{passing_start, may_step, Stepping, passing_next, never_bad}
use Rattle.mm_check.proofs.PassLaws.{never_unended, passed, ended_by_step}
use Rattle.mm_check.proofs.pass.pass.Goals as goal

pub loop-last-init : goal.loop-last-init
loop-last-init c =
    passing_start c.proof_laws.ensures.empty (theory_of c.args.program.now)
    (theory_for c.in-Ok.axioms) c.args.bytes.now c.new-reader.result
    (scope_state c.new-scopes.result) c.in-Ok.ensures c.requires.valid c.new-reader.ensures.text
    c.new-reader.ensures.all c.new-scopes.ensures.stands

pub returns-in-Err-Fault : goal.returns-in-Err-Fault
returns-in-Err-Fault c =
    never_bad (theory_of c.args.program.now) (theory_for c.loop-last.axioms) c.args.bytes.now
    c.loop-last.reader (scope_state c.loop-last.scopes) c.loop-last.last c.in-Err-Fault.fault
    c.loop-last.invariant
    (subst (λ (e : MmReadEnd). Finds c.loop-last.reader.bytes.now
    (statements_left c.loop-last.reader) (statements_left c.next_statement.new.self)
    c.next_statement.new.tokens.items (Err e)) c.in-Err-Fault.field-0-is
    c.in-Err-Fault.ensures.finds)

pub returns-in-Ok-Unended : goal.returns-in-Ok-Unended
returns-in-Ok-Unended c =
    never_unended (theory_of c.args.program.now) (theory_for c.loop-last.axioms) c.args.bytes.now
    c.loop-last.reader (scope_state c.loop-last.scopes) c.loop-last.last c.in-Ok-Unended.at
    c.loop-last.invariant
    (subst (λ (f : MmFound). Finds c.loop-last.reader.bytes.now
    (statements_left c.loop-last.reader) (statements_left c.next_statement.new.self)
    c.next_statement.new.tokens.items (Ok f)) c.in-Ok-Unended.field-0-is
    c.in-Ok-Unended.ensures.finds)

pub returns-in-Ok-End : goal.returns-in-Ok-End
returns-in-Ok-End c =
    passed (theory_of c.args.program.now) (theory_for c.loop-last.axioms) c.args.bytes.now
    c.loop-last.reader (scope_state c.loop-last.scopes) c.loop-last.last c.loop-last.invariant
    (subst (λ (f : MmFound). Finds c.loop-last.reader.bytes.now
    (statements_left c.loop-last.reader) (statements_left c.next_statement.new.self)
    c.next_statement.new.tokens.items (Ok f)) c.in-Ok-End.field-0-is c.in-Ok-End.ensures.finds)

pub step-requires-clause-sig : goal.step-requires-clause-sig
step-requires-clause-sig c = ap (λ (t : RewriteTheory). t.sig) (sym c.loop-last.invariant.same)

pub step-requires-clause-may : goal.step-requires-clause-may
step-requires-clause-may c =
    let found =
    subst (λ (f : MmFound). Finds c.loop-last.reader.bytes.now
    (statements_left c.loop-last.reader) (statements_left c.next_statement.new.self)
    c.next_statement.new.tokens.items (Ok f)) c.in-Ok-Statement.field-0-is
    c.in-Ok-Statement.ensures.finds in
    rw c.deref.ensures.value (may_step (theory_of c.args.program.now)
    (theory_for c.loop-last.axioms) c.args.bytes.now c.loop-last.reader
    c.next_statement.new.self (scope_state c.loop-last.scopes) c.loop-last.last
    c.next_statement.new.tokens.items c.loop-last.invariant found)

pub returns-in-Err-step : goal.returns-in-Err-step
returns-in-Err-step c =
    let found =
    subst (λ (f : MmFound). Finds c.loop-last.reader.bytes.now
    (statements_left c.loop-last.reader) (statements_left c.next_statement.new.self)
    c.next_statement.new.tokens.items (Ok f)) c.in-Ok-Statement.field-0-is
    c.in-Ok-Statement.ensures.finds in
    ended_by_step (theory_of c.args.program.now) (theory_for c.loop-last.axioms)
    c.args.bytes.now c.loop-last.reader c.next_statement.new.self (scope_state c.loop-last.scopes)
    (scope_state c.step.new.scopes) c.loop-last.last c.next_statement.new.tokens.items
    c.in-Err-step.end c.loop-last.invariant found
    (subst (λ (ts : List MmToken). Stepping (theory_for c.loop-last.axioms)
    (scope_state c.loop-last.scopes) (scope_state c.step.new.scopes)
    (statement_of c.args.bytes.now ts) (Err c.in-Err-step.end)) c.deref.ensures.value
    c.in-Err-step.ensures.steps)

pub loop-last-preserved : goal.loop-last-preserved
loop-last-preserved c =
    let found =
    subst (λ (f : MmFound). Finds c.loop-last.reader.bytes.now
    (statements_left c.loop-last.reader) (statements_left c.next_statement.new.self)
    c.next_statement.new.tokens.items (Ok f)) c.in-Ok-Statement.field-0-is
    c.in-Ok-Statement.ensures.finds in
    passing_next c.proof_laws.ensures.orderly (theory_of c.args.program.now)
    (theory_for c.loop-last.axioms) (theory_for c.step.new.axioms) c.args.bytes.now
    c.loop-last.reader c.next_statement.new.self (scope_state c.loop-last.scopes)
    (scope_state c.step.new.scopes) c.loop-last.last c.last_with-last.result
    c.next_statement.new.tokens.items c.in-Ok-step.noted c.loop-last.invariant
    c.in-Ok-step.ensures.program c.in-Ok-Statement.ensures.text found
    (subst (λ (ts : List MmToken). Stepping (theory_for c.loop-last.axioms)
    (scope_state c.loop-last.scopes) (scope_state c.step.new.scopes)
    (statement_of c.args.bytes.now ts) (Ok c.in-Ok-step.noted)) c.deref.ensures.value
    c.in-Ok-step.ensures.steps)
    (subst (λ (ts : List MmToken). IsLastWith c.loop-last.last c.in-Ok-step.noted ts
    c.last_with-last.result) c.deref-in-Ok-step.ensures.value c.last_with-last.ensures)
