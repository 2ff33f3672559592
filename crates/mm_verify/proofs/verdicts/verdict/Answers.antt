use Rattle.std.proofs.Common.{subst, List}
use Rattle.std.specs.Prelude.{Ok, Err}
use Rattle.mm_text.specs.Reader.{statements_left, statement_of, Finds, Passes}
use Rattle.mm_text.specs.declared.tokens.MmToken.{MmToken}
use Rattle.mm_text.specs.declared.statements.MmFound.{MmFound}
use Rattle.mm_verify.specs.Checking.{Checks}
use Rattle.mm_verify.proofs.VerdictLaws.{at_next, found_fault}
use Rattle.mm_verify.proofs.verdicts.verdict.Goals as goal

pub returns-in-Err-check : goal.returns-in-Err-check
returns-in-Err-check c =
    let found =
    subst (λ (f : MmFound). Finds c.loop-room.reader.bytes.now
    (statements_left c.loop-room.reader) (statements_left c.next_statement.new.self)
    c.next_statement.new.tokens.items (Ok f)) c.in-Ok-Statement.field-0-is
    c.in-Ok-Statement.ensures.finds in
    found_fault c.args.bytes.now c.loop-room.reader c.next_statement.new.self c.loop-room.checker
    c.check.new.self c.loop-room.report c.next_statement.new.tokens.items c.in-Err-check.end
    c.loop-room.invariant found
    (λ d b. subst (λ (ts : List MmToken).
    Checks d (statement_of c.args.bytes.now ts) c.check.new.self (Err c.in-Err-check.end))
    c.deref.ensures.value (c.in-Err-check.ensures d b))

pub loop-room-preserved : goal.loop-room-preserved
loop-room-preserved c =
    let found =
    subst (λ (f : MmFound). Finds c.loop-room.reader.bytes.now
    (statements_left c.loop-room.reader) (statements_left c.next_statement.new.self)
    c.next_statement.new.tokens.items (Ok f)) c.in-Ok-Statement.field-0-is
    c.in-Ok-Statement.ensures.finds in
    let past =
    subst (λ (f : MmFound). Passes c.loop-room.reader.at c.next_statement.new.self.at (Ok f))
    c.in-Ok-Statement.field-0-is c.in-Ok-Statement.ensures.passes in
    at_next c.args.bytes.now c.loop-room.reader c.next_statement.new.self c.loop-room.checker
    c.check.new.self c.loop-room.report c.counted-report.result
    c.next_statement.new.tokens.items c.in-Ok-check.stated c.loop-room.invariant
    c.in-Ok-Statement.ensures.text found past
    (λ d b. subst (λ (ts : List MmToken). Checks d (statement_of c.args.bytes.now ts)
    c.check.new.self (Ok c.in-Ok-check.stated)) c.deref.ensures.value
    (c.in-Ok-check.ensures d b)) c.counted-report.ensures.axioms
    c.counted-report.ensures.theorems
