use Rattle.mm_text.specs.Reader.{statement_of}
use Rattle.mm_scope.specs.ScopeState.{scope_state}
use Rattle.mm_verify.proofs.CheckedStatements.{declare_refused}
use Rattle.mm_verify.proofs.checker.Checker.declare.Goals as goal

pub returns-in-Err : goal.returns-in-Err
returns-in-Err c =
    λ d w. declare_refused d (statement_of c.args.bytes.now c.args.tokens.now)
    (scope_state c.args.self.now.scopes) (scope_state c.statement.new.self)
    (record { scopes = c.statement.new.self; assertions = c.args.self.now.assertions })
    c.in-Err.end c.verify_end.result (c.in-Err.ensures.takes d w) c.verify_end.ensures

pub returns-in-Ok-add_assertions : goal.returns-in-Ok-add_assertions
returns-in-Ok-add_assertions c =
    λ d w. (
      (c.in-Ok.ensures.takes d w).0,
      (c.in-Ok.ensures.takes d w).1,
      c.in-Ok-add_assertions.ensures,
      c.in-Ok.ensures.added,
    )
