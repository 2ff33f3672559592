use Rattle.std.proofs.Common.{◌++◌, ap, ◌∙◌}
use Rattle.mm_claims.specs.Keeping.{with_last}
use Rattle.mm_claims.specs.Rendered.{Rendered}
use Rattle.mm_render.specs.ClaimView.{plain_claim}
use Rattle.mm_render.specs.ProvedText.{WritesProof}
use Rattle.mm_render.proofs.PartLaws.{both_ok}
use Rattle.mm_render.proofs.StatedTheorems.{states_written}
use Rattle.mm_render.proofs.renderer.Renderer.theorem.Goals as goal

pub returns-clause-states : goal.returns-clause-states
returns-clause-states c =
    let w : WritesProof c.args.names.now c.args.self.now c.args.theorem.now c.new-text.result.items
    c.write_proof.new.to.items =
    c.in_ok-claim.ensures.text in
    both_ok c.keep_last.result (λ appended kept.
    states_written c.args.names.now c.args.self.now _ c.args.theorem.now with_last
    (plain_claim c.in_ok-claim.claim) c.args.to.now.items c.new-text.result.items
    c.write_proof.new.to.items _ w w.gains_last
    c.new-text.ensures.items c.in_ok-claim.ensures.claim
    (appended ∙ ap (λ bytes. c.args.to.now.items ++ bytes) c.deref.ensures.value)
    (kept
    ∙ ap (λ (k : Rendered). with_last k (plain_claim c.in_ok-claim.claim))
    c.write_proof.ensures.as_before)) c.keep_last.ensures.text c.keep_last.ensures.kept
