use Rattle.mm_scope.specs.ScopeState.{scope_state}
use Rattle.mm_scope.proofs.Taken.{refused, taken}
use Rattle.mm_scope.proofs.FramesKept.{frames_kept}
use Rattle.mm_scope.proofs.scopes.Scopes.statement.Goals as goal

pub returns-in-Err-clause-takes : goal.returns-in-Err-clause-takes
returns-in-Err-clause-takes c =
    λ d w. refused (scope_state c.args.self.now) d c.args.bytes.now c.args.tokens.now c.in-Some.form
    c.in-Err.refusal c.first_byte-at.result w c.in-Some.ensures c.in-Err.ensures
    (c.first_byte-at.ensures c.args.bytes.now) c.end_at.result c.end_at.ensures

pub returns-in-Ok-add-clause-takes : goal.returns-in-Ok-add-clause-takes
returns-in-Ok-add-clause-takes c =
    λ d w. taken (scope_state c.args.self.now) d c.args.bytes.now c.args.tokens.now c.in-Some.form
    c.in-Ok.said c.first_byte-at.result (scope_state c.add.new.self) c.added_by-added.result w
    c.in-Some.ensures c.in-Ok.ensures c.in-Ok-add.ensures
    (c.first_byte-at.ensures c.args.bytes.now)

pub returns-in-Ok-add-clause-frames : goal.returns-in-Ok-add-clause-frames
returns-in-Ok-add-clause-frames c =
    frames_kept (scope_state c.args.self.now) c.first_byte-at.result _ (scope_state c.add.new.self)
    c.in-Ok-add.ensures
