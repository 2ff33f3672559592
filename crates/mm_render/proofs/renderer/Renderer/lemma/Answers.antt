use Rattle.std.proofs.Common.{◌++◌, ap, ◌∙◌}
use Rattle.mm_claims.specs.Keeping.{with_stated}
use Rattle.mm_claims.specs.Rendered.{Rendered}
use Rattle.mm_render.specs.ClaimView.{plain_claim}
use Rattle.mm_render.specs.ProvedText.{WritesProof}
use Rattle.mm_render.proofs.PartLaws.{both_ok}
use Rattle.mm_render.proofs.StatedTheorems.{states_written}
use Rattle.mm_render.proofs.renderer.Renderer.lemma.Goals as goal

pub returns-clause-states : goal.returns-clause-states
returns-clause-states c =
    let w : WritesProof c.args.names.now c.args.self.now c.args.lemma.now c.new-text.result.items
    c.write_proof.new.to.items =
    c.in_ok-claim.ensures.text in
    both_ok c.keep.result (λ appended kept.
    states_written c.args.names.now c.args.self.now _ c.args.lemma.now with_stated
    (plain_claim c.in_ok-claim.claim) c.args.to.now.items c.new-text.result.items
    c.write_proof.new.to.items _ w w.gains
    c.new-text.ensures.items c.in_ok-claim.ensures.claim
    (appended ∙ ap (λ bytes. c.args.to.now.items ++ bytes) c.deref.ensures.value)
    (kept
    ∙ ap (λ (k : Rendered). with_stated k (plain_claim c.in_ok-claim.claim))
    c.write_proof.ensures.as_before)) c.keep.ensures.text c.keep.ensures.kept
