use Rattle.std.proofs.Common.{◌≡◌, ℕ, List, [], ◌∷◌, map, ap, ◌∙◌, subst}
use Rattle.mm_text.specs.Bytes.{Token}
use Rattle.mm_database.specs.ProofTexts.{Compresses}
use Rattle.mm_database.specs.ProofText.{mandatory_labels}
use Rattle.mm_database.specs.Proofs.{ProofTree}
use Rattle.mm_claims.specs.Blocks.{open_frame}
use Rattle.mm_proof.specs.Listings.{Listing, Builds, empty_listing}
use Rattle.mm_proof.specs.Writing.{label_token}
use Rattle.mm_proof.specs.declared.words.Label.{Label}
use Rattle.mm_proof.proofs.Stacking.{on_ok}
use Rattle.mm_render.specs.ClaimView.{plain_claim}
use Rattle.mm_render.specs.Parts.{proof_by}
use Rattle.mm_render.proofs.derivations.write_derivation.Goals as goal

pub push_proof-requires : goal.push_proof-requires
push_proof-requires c =
    let at = c.args.at.now in
    let built : Builds (λ k. proof_by k c.args.at.now c.args.derivation.now ∷ [])
    (empty_listing c.args.at.now.serial) c.prove_derivation.new.table =
    subst (λ (l : Listing). Builds (λ k. proof_by k at c.args.derivation.now ∷ []) l
    c.prove_derivation.new.table) c.start.ensures c.in_ok-prove_derivation.ensures in
    (proof_by at.serial at c.args.derivation.now, built.1)

pub returns : goal.returns
returns c =
    let at = c.args.at.now in
    let tree : ProofTree = proof_by at.serial at c.args.derivation.now in
    let built : Builds (λ k. proof_by k c.args.at.now c.args.derivation.now ∷ [])
    (empty_listing c.args.at.now.serial) c.prove_derivation.new.table =
    subst (λ (l : Listing). Builds (λ k. proof_by k at c.args.derivation.now ∷ []) l
    c.prove_derivation.new.table) c.start.ensures c.in_ok-prove_derivation.ensures in
    on_ok c.push_proof.result (λ w. record {
      proof = w.proof;
      compresses =
          subst (λ (ls : List Token). Compresses ls tree w.proof)
          (ap (map (label_token c.prove_derivation.new.table.serial)) c.deref.ensures.value
          ∙ ap (λ (k : ℕ). map (label_token k) c.in_ok-mandatory.mandatory.items) built.0
          ∙ c.in_ok-mandatory.ensures at.names.now at.serial) (w.compresses tree built.1);
      appended = w.appended;
    }) c.push_proof.ensures
