use Rattle.std.proofs.Common.{ℕ, List, ◌++◌, length, map, ap, ◌∙◌, subst}
use Rattle.std.specs.Global.{Vec}
use Rattle.mm_text.specs.Bytes.{Token}
use Rattle.mm_text.specs.Written.{written}
use Rattle.mm_database.specs.ProofTexts.{Compresses}
use Rattle.proof_nodes.specs.Compression.{proof_text}
use Rattle.mm_proof.specs.Listings.{Listing, token_at, trees_of}
use Rattle.mm_proof.specs.TableView.{AreNumbersOf, tokens_of}
use Rattle.mm_proof.specs.Writing.{label_token}
use Rattle.mm_proof.proofs.KnownLaws.{known-more_tokens}
use Rattle.mm_proof.proofs.Stacking.{on_ok}
use Rattle.mm_proof.proofs.TableLaws.{trees-grown, labels-grown, told_apart}
use Rattle.mm_proof.proofs.table.ProofTable.push_proof.Goals as goal

pub invariant_of-self : goal.invariant_of-self
invariant_of-self c =
    let old : List Token = tokens_of c.self.inside.tokens.keys in
    let tokens : List Token = tokens_of c.label_numbers.new.tokens.keys in record {
      labels = labels-grown old tokens c.self.inside.nodes c.label_numbers.ensures.grown
          c.self.invariant.labels;
      known = known-more_tokens c.self.inside.serial old tokens c.self.inside.nodes
          c.self.inside.known c.label_numbers.ensures.grown c.self.invariant.labels
          c.self.invariant.known;
    }

pub invariant_of-self-in_err-proof : goal.invariant_of-self-in_err-proof
invariant_of-self-in_err-proof c =
    let old : List Token = tokens_of c.self.inside.tokens.keys in
    let tokens : List Token = tokens_of c.label_numbers.new.tokens.keys in record {
      labels = labels-grown old tokens c.self.inside.nodes c.label_numbers.ensures.grown
          c.self.invariant.labels;
      known = known-more_tokens c.self.inside.serial old tokens c.self.inside.nodes
          c.self.inside.known c.label_numbers.ensures.grown c.self.invariant.labels
          c.self.invariant.known;
    }

pub invariant_of-self-2 : goal.invariant_of-self-2
invariant_of-self-2 c =
    let old : List Token = tokens_of c.self.inside.tokens.keys in
    let tokens : List Token = tokens_of c.label_numbers.new.tokens.keys in record {
      labels = labels-grown old tokens c.self.inside.nodes c.label_numbers.ensures.grown
          c.self.invariant.labels;
      known = known-more_tokens c.self.inside.serial old tokens c.self.inside.nodes
          c.self.inside.known c.label_numbers.ensures.grown c.self.invariant.labels
          c.self.invariant.known;
    }

pub returns : goal.returns
returns c =
    let keys : List (Vec ℕ) = c.label_numbers.new.tokens.keys in
    let tokens : List Token = tokens_of keys in
    let proof = c.in_ok-proof.proof in
    let numbers : AreNumbersOf tokens (map (label_token c.self.inside.serial) c.args.mandatory.now)
    c.deref.result.now =
    rw c.deref.ensures.value c.in_ok-numbers.ensures.numbers in
    on_ok c.push_compressed.result (λ text. record {
      proof = proof_text (token_at tokens) proof.listed.items proof.letters.items;
      compresses = λ tree h.
          subst (λ (ts : List Token). Compresses ts tree
          (proof_text (token_at tokens) proof.listed.items proof.letters.items))
          (numbers.0
          ∙ ap (λ (l : Listing). map (label_token l.serial) c.args.mandatory.now) c.self.view_is)
          (c.in_ok-proof.ensures.compressed (length tokens) (token_at tokens) tree
          (told_apart keys c.as_slice.ensures.unique) (invariant_of-self-2 c).labels
          numbers.1
          (trees-grown (tokens_of c.self.inside.tokens.keys) tokens c.self.inside.nodes
          c.label_numbers.ensures.grown c.self.invariant.labels
          ∙ ap (λ (l : Listing). trees_of l) c.self.view_is ∙ h));
      appended =
          text ∙ ap (λ (ks : List (Vec ℕ)). c.args.to.now.items
          ++ written (proof_text (token_at (tokens_of ks)) proof.listed.items
          proof.letters.items)) c.as_slice.ensures.keys;
    }) c.push_compressed.ensures
