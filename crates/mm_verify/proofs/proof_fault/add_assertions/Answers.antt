use Rattle.std.proofs.Common.{rules, ◌≡◌, ◌<◌, ◌++◌, ◌∷◌, [], List, length, take, map, get_or}
use Rattle.std.proofs.Common.{subst, sym}
use Rattle.mm_scope.specs.ScopeState.{scope_state}
use Rattle.mm_verify.specs.declared.stored.StoredAssertion.{StoredAssertion}
use Rattle.mm_verify.specs.StoredView.{stored_frame}
use Rattle.mm_verify.proofs.MoreFrames.{more_frames}
use Rattle.mm_verify.proofs.proof_fault.add_assertions.Goals as goal

pub loop-frames-preserved : goal.loop-frames-preserved
loop-frames-preserved c =
    let pushed : c.push.new.self.items ≡ c.loop-frames.assertions.items ++ c.in_ok-of.field-0 ∷ [] =
    search rules in
    let lt : length c.loop-frames.assertions.items < length c.frames-frames.result.now =
    search rules in
    let at : c.index-frames-len.result ≡ get_or c.frames-frames.result.now
    (length c.loop-frames.assertions.items) c.index-frames-len.result =
    search rules in
    subst (λ (xs : List StoredAssertion).
    map stored_frame xs ≡ take (length xs) (scope_state c.args.scopes.now).frames)
    (sym pushed)
    (more_frames c.loop-frames.assertions.items c.in_ok-of.field-0 c.frames-frames.result.now
    (scope_state c.args.scopes.now).frames c.index-frames-len.result c.frames-frames.ensures
    c.loop-frames.invariant lt at c.in_ok-of.ensures)
