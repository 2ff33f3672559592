use Rattle.std.proofs.Common.{◌≡◌, Option, subst}
use Rattle.std.specs.Prelude.{Ok, false}
use Rattle.mm_text.specs.Reader.{statement_of}
use Rattle.mm_database.specs.Forms.{form_of}
use Rattle.mm_scope.specs.ScopeState.{scope_state}
use Rattle.mm_scope.specs.Proposing.{is_theorem, Proposes}
use Rattle.mm_scope.specs.declared.theorem.Theorem.{Theorem}
use Rattle.mm_verify.proofs.CheckedStatements.{proof_refused, declared_is, declared_refused}
use Rattle.mm_verify.proofs.checker.Checker.check.Goals as goal

pub returns-in-Err : goal.returns-in-Err
returns-in-Err c = λ d behind.
    proof_refused c.args.bytes.now (scope_state c.args.self.now.scopes) d
    (statement_of c.args.bytes.now c.args.tokens.now) c.args.self.now c.in-Err.end
    c.verify_end.result (c.in-Err.ensures d behind.stands) c.verify_end.ensures

pub returns-in-Some : goal.returns-in-Some
returns-in-Some c = λ d behind.
    c.prove.ensures d behind (subst (λ (t : Option Theorem). Proposes c.args.bytes.now
    (scope_state c.args.self.now.scopes) d (statement_of c.args.bytes.now c.args.tokens.now)
    (Ok t)) c.in-Some.is (c.in-Ok.ensures d behind.stands))

pub returns-in-Err-declare : goal.returns-in-Err-declare
returns-in-Err-declare c = λ d behind.
    let s = statement_of c.args.bytes.now c.args.tokens.now in
    let none : is_theorem (form_of s.tokens) ≡ false =
    subst (λ (t : Option Theorem).
    Proposes c.args.bytes.now (scope_state c.args.self.now.scopes) d s (Ok t))
    c.in-None.is (c.in-Ok.ensures d behind.stands) in
    declared_refused d s c.declare.new.self c.in-Err-declare.end none
    (c.in-Err-declare.ensures d behind.stands)

pub returns-in-Ok-declare : goal.returns-in-Ok-declare
returns-in-Ok-declare c = λ d behind.
    let s = statement_of c.args.bytes.now c.args.tokens.now in
    let none : is_theorem (form_of s.tokens) ≡ false =
    subst (λ (t : Option Theorem).
    Proposes c.args.bytes.now (scope_state c.args.self.now.scopes) d s (Ok t))
    c.in-None.is (c.in-Ok.ensures d behind.stands) in
    declared_is c.proof_laws.ensures.fine c.proof_laws.ensures.orderly d s c.in-Ok-declare.added
    c.declare.new.self c.stated.result behind.orderly none
    (c.in-Ok-declare.ensures d behind.stands) c.stated.ensures
