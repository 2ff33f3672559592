-- An axiom and a theorem without a block, after a text that fits.
use Rattle.std.proofs.Common.{◌≡◌, ℕ, ◌<◌, ◌^◌, Bool, true, false, List, [], ◌∷◌, length, refl, ap}
use Rattle.std.proofs.Common.{◌∙◌, sym, subst, Some, slice_get}
use Rattle.std.specs.Prelude.{codes}
use Rattle.std.specs.List.{list_all}
use Rattle.std.proofs.lemmas.Bool.{false≢true}
use Rattle.mm_text.specs.Bytes.{Token}
use Rattle.mm_text.specs.Labels.{is_label}
use Rattle.mm_text.specs.PlainTokens.{is_plain_token}
use Rattle.mm_database.specs.Forms.{asserts, proves, form_of}
use Rattle.mm_database.specs.Frames.{Frame, frame_of}
use Rattle.mm_database.specs.Database.{Context, with_tokens, with_token, with_frame, with_assertion}
use Rattle.mm_database.specs.Proofs.{ProofTree, Proves, postorder}
use Rattle.mm_database.specs.ProofText.{mandatory_labels}
use Rattle.mm_database.specs.Compressing.{begins_compressed}
use Rattle.mm_database.specs.ProofTexts.{Compresses, by_letters}
use Rattle.mm_database.specs.Compressing.{is_compressed}
use Rattle.mm_database.specs.CleanTokens.{are_clean}
use Rattle.mm_database.specs.Assertions.{with_typing_first}
use Rattle.mm_database.specs.FrameLaws.{Adds}
use Rattle.mm_database.specs.Writing.{MayBeStated}
use Rattle.mm_database.proofs.WrittenForms.{plain_tokens_say, proof_tokens_say}
use Rattle.mm_database.proofs.Continued.{axiom_is_fine, theorem_is_fine}
use Rattle.mm_database.proofs.Compressed.{proof_text_is_plain}
use Rattle.mm_database.proofs.LabelTokens.{label_facts}
use Rattle.ml_pat.specs.Patterns.{Pattern}
use Rattle.ml_kernel.specs.Theorems.{Derivation}
use Rattle.mm_proof.specs.Tokens.{letters_of, text_by, name_of, own_naming}
use Rattle.mm_proof.specs.Labels.{name_label, statement_label, own_labels}
use Rattle.mm_proof.specs.Serving.{IsAssertion, punctuation, Declares, Serves}
use Rattle.mm_proof.specs.ClosedFrames.{closed_frame}
use Rattle.mm_proof.specs.Derivations.{holds_text, derivation_tree}
use Rattle.ml_pat.proofs.LeafLaws.{both_true}
use Rattle.mm_proof.proofs.CitingDerivations.{cited_proves}
use Rattle.mm_claims.specs.Statements.{typecode_of, axiom_statement, theorem_statement}
use Rattle.mm_claims.specs.Fitting.{AreNames, Holds}
use Rattle.mm_claims.specs.Blocks.{Claim, IsClaim, open_frame, open_assertion}
use Rattle.mm_claims.specs.OverNames.{open_over}
use Rattle.mm_claims.specs.CitedAt.{at_places, claims_citing}
use Rattle.mm_claims.specs.Citable.{citable}
use Rattle.mm_claims.specs.Claiming.{HoldsClaims, IsProofOfClaim}
use Rattle.mm_claims.specs.Provable.{IsProvable}
use Rattle.mm_claims.proofs.NameLaws.{name_facts}
use Rattle.mm_claims.proofs.SpeltLaws.{statement_label-is_label, header_active_spelt}
use Rattle.mm_claims.proofs.SpeltLaws.{postorder_spelt}
use Rattle.mm_claims.proofs.StatedLaws.{name_at, fixed_variables, fixed_constants, axiom_plain}
use Rattle.mm_claims.proofs.StatedLaws.{axiom_one, theorem_plain, theorem_one}
use Rattle.mm_claims.proofs.InsideLaws.{AddsJust, AreSymbols, Asserts, asserted, assertion_adds}
use Rattle.mm_claims.proofs.InsideLaws.{clean_go_on, inside, none_more, opened, untyped}
use Rattle.mm_claims.proofs.OpenTexts.{open_symbols}
use Rattle.mm_claims.proofs.OpenFrames.{frame_is}
use Rattle.mm_claims.proofs.BlockLaws.{behind_block, claim_may_be_stated, ground}
use Rattle.mm_claims.proofs.NamedClaims.{claim_at_place}
use Rattle.mm_claims.proofs.OpenCiting.{citing_is_sound}

-- an axiom and a theorem assert what they state

pub axiom_asserts : (declared : List Token) (k : ℕ) (e : Context) (p : Pattern) → k < 2 ^ 64
    → AreSymbols (holds_text (own_naming declared) p)
    → MayBeStated e (statement_label k) (codes "|-") (text_by (letters_of (own_naming declared)) p)
    → Asserts e (statement_label k) (holds_text (own_naming declared) p) false
    (axiom_statement declared k p)
axiom_asserts declared k e p small symbols may = record {
  plain_ones =
      axiom_plain (statement_label k) (holds_text (own_naming declared) p)
      (label_facts (statement_label k) (statement_label-is_label k small)).plain symbols.plain;
  one =
      axiom_one k (holds_text (own_naming declared) p)
      (clean_go_on (holds_text (own_naming declared) p) symbols.clean);
  fine =
      axiom_is_fine e (statement_label k) (codes "|-")
      (text_by (letters_of (own_naming declared)) p) may;
  keyword = asserts;
  proof = [];
  said =
      plain_tokens_say (statement_label k ∷ []) asserts (codes "|-")
      (text_by (letters_of (own_naming declared)) p) may.clean_label may.clean refl;
  makes = refl;
  declares = refl;
  types_none = refl;
  compressed =
      ap is_compressed (plain_tokens_say (statement_label k ∷ []) asserts (codes "|-")
      (text_by (letters_of (own_naming declared)) p) may.clean_label may.clean refl);
}

pub theorem_asserts : (declared : List Token) (k : ℕ) (e : Context) (p : Pattern) (tree : ProofTree)
    (proof : List Token) → k < 2 ^ 64 → AreSymbols (holds_text (own_naming declared) p)
    → MayBeStated e (statement_label k) (codes "|-") (text_by (letters_of (own_naming declared)) p)
    → list_all is_label (postorder tree) ≡ true → Proves e tree (holds_text (own_naming declared) p)
    → Compresses (mandatory_labels
    (frame_of e.scope (statement_label k) (holds_text (own_naming declared) p))) tree proof
    → Asserts e (statement_label k) (holds_text (own_naming declared) p) true
    (theorem_statement declared k p proof)
theorem_asserts declared k e p tree proof small symbols may spelt proof_of text =
    let tokens : (list_all is_plain_token proof ≡ true) × (are_clean proof ≡ true) =
    proof_text_is_plain (mandatory_labels
    (frame_of e.scope (statement_label k) (holds_text (own_naming declared) p))) tree proof
    spelt (by_letters proof text) in
    record {
      plain_ones =
          theorem_plain (statement_label k) (holds_text (own_naming declared) p) proof
          (label_facts (statement_label k) (statement_label-is_label k small)).plain symbols.plain
          tokens.0;
      one =
          theorem_one k (holds_text (own_naming declared) p) proof
          (clean_go_on (holds_text (own_naming declared) p) symbols.clean)
          (clean_go_on proof tokens.1);
      fine =
          theorem_is_fine e (statement_label k) (codes "|-")
          (text_by (letters_of (own_naming declared)) p) tree proof may proof_of spelt
          (by_letters proof text);
      keyword = proves;
      proof = proof;
      said =
          proof_tokens_say (statement_label k ∷ []) (holds_text (own_naming declared) p) proof
          may.clean_label may.clean tokens.1;
      makes = refl;
      declares = refl;
      types_none = refl;
      compressed =
          ap is_compressed (proof_tokens_say (statement_label k ∷ [])
          (holds_text (own_naming declared) p) proof may.clean_label may.clean tokens.1)
          ∙ ap begins_compressed text.is;
    }

-- a claim without variables and hypotheses

abbrev pub plain_claim : Pattern → Claim
plain_claim p = record { variables = []; hypotheses = []; conclusion = p }

-- it may be stated, and it has the same frame as in a block that declares nothing
plain_may_be_stated : (declared : List Token) (claims : List Claim) (c : Context) (p : Pattern)
    → HoldsClaims declared claims c → length claims < 2 ^ 64 → IsClaim declared (plain_claim p)
    → MayBeStated c (statement_label (length claims)) (codes "|-")
    (text_by (letters_of (own_naming declared)) p)
plain_may_be_stated declared claims c p w few claim =
    let may : MayBeStated (inside c 0 [] [] []) (statement_label (length claims)) (codes "|-")
    (text_by (letters_of (own_naming declared)) p) =
    claim_may_be_stated declared (length claims) c 0 (plain_claim p) []
    (ground declared claims c w few) claim tt in
    let same : MayBeStated (record c { blocks = record { at = 0; outside = c.scope } ∷ c.blocks })
    (statement_label (length claims)) (codes "|-")
    (text_by (letters_of (own_naming declared)) p) =
    subst (λ (e : Context). MayBeStated e (statement_label (length claims)) (codes "|-")
    (text_by (letters_of (own_naming declared)) p)) (sym (opened c 0)) may in
    record {
      new = same.new;
      constant = same.constant;
      typed = same.typed;
      clean_label = same.clean_label;
      clean = same.clean;
    }

plain_frame : (declared : List Token) (k : ℕ) (c : Context) (p : Pattern) → Holds declared c
    → AreNames declared → IsClaim declared (plain_claim p)
    → frame_of c.scope (statement_label k) (holds_text (own_naming declared) p)
    ≡ open_frame declared k (plain_claim p)
plain_frame declared k c p w names claim =
    ap (λ (e : Context). frame_of e.scope (statement_label k) (holds_text (own_naming declared) p))
    (opened c 0) ∙ frame_is declared k c 0 (plain_claim p) [] w names claim refl tt

-- a context with other variables and labels, and with the frame of a statement
abbrev parts : Context → ℕ → (Token → Bool) → (Token → Bool) → Frame → Context
parts c k vs ls f = record {
  constants = c.constants;
  variables = vs;
  labels = with_token ls (statement_label k);
  frames = with_frame c.frames (statement_label k) f;
  scope = c.scope;
  blocks = c.blocks;
}

plain_left : (declared : List Token) (k : ℕ) (c : Context) (p : Pattern) → Holds declared c
    → AreNames declared → IsClaim declared (plain_claim p)
    → with_assertion c (statement_label k) (holds_text (own_naming declared) p)
    ≡ behind_block declared k c (plain_claim p) []
plain_left declared k c p w names claim =
    ap (λ (vs : Token → Bool). parts c k vs c.labels
    (frame_of c.scope (statement_label k) (holds_text (own_naming declared) p)))
    (none_more c.variables)
    ∙ ap (λ (ls : Token → Bool). parts c k (behind_block declared k c (plain_claim p) []).variables
    ls (frame_of c.scope (statement_label k) (holds_text (own_naming declared) p)))
    (none_more c.labels)
    ∙ ap (parts c k (behind_block declared k c (plain_claim p) []).variables
    (with_tokens c.labels [])) (plain_frame declared k c p w names claim)

-- the context after the statement
plain_adds : (declared : List Token) (k : ℕ) (c : Context) (at : ℕ) (p : Pattern) (proved : Bool)
    (tokens : List Token) → Holds declared c → AreNames declared
    → IsClaim declared (plain_claim p)
    → Asserts c (statement_label k) (holds_text (own_naming declared) p) proved tokens
    → AddsJust c at (tokens ∷ []) (behind_block declared k c (plain_claim p) [])
    (open_assertion proved declared k (plain_claim p)) []
plain_adds declared k c at p proved tokens w names claim says =
    let both : Adds c at (tokens ∷ []) (behind_block declared k c (plain_claim p) []) ×
    (asserted c at (tokens ∷ []) ≡ open_assertion proved declared k (plain_claim p) ∷ []) =
    assertion_adds c (statement_label k) (holds_text (own_naming declared) p) proved tokens
    (open_frame declared k (plain_claim p)) [] (behind_block declared k c (plain_claim p) [])
    says (plain_frame declared k c p w names claim)
    (λ n. (sym (plain_left declared k c p w names claim), refl)) at in
    record {
      adds = both.0;
      makes = both.1;
      types =
          ap (λ o. with_typing_first o []) (untyped c (statement_label k)
          (holds_text (own_naming declared) p) proved tokens says);
      compressed = both_true (is_compressed (form_of tokens)) true says.compressed refl;
    }

-- an axiom

pub plain_axiom_adds : (declared : List Token) (claims : List Claim) (c : Context) (at : ℕ)
    (p : Pattern) → HoldsClaims declared claims c → length claims < 2 ^ 64
    → IsClaim declared (plain_claim p)
    → AddsJust c at (axiom_statement declared (length claims) p ∷ [])
    (behind_block declared (length claims) c (plain_claim p) [])
    (open_assertion false declared (length claims) (plain_claim p)) []
plain_axiom_adds declared claims c at p w few claim =
    plain_adds declared (length claims) c at p false (axiom_statement declared (length claims) p)
    w.base w.names claim
    (axiom_asserts declared (length claims) c p few
    (open_symbols declared [] p w.names tt claim.over.0)
    (plain_may_be_stated declared claims c p w few claim))

-- a theorem

assertion_at : (declared : List Token) (claims : List Claim) (c : Context) (label : Token)
    (f : Frame) → HoldsClaims declared claims c → c.frames label ≡ Some f
    → IsAssertion c label f
assertion_at declared claims c label f w kept = record {
  kept = kept;
  no_hypothesis = w.no_hypothesis label f kept;
}

declares : (declared : List Token) (claims : List Claim) (c : Context) (typecode : Token) (i : ℕ)
    → HoldsClaims declared claims c → i < length declared
    → typecode_of (name_of declared i) ≡ typecode
    → Declares c typecode (name_label i) (name_of declared i)
declares declared claims c typecode i w lt typed = record {
  stated =
      assertion_at declared claims c (name_label i)
      (closed_frame (name_label i) (typecode ∷ (name_of declared i ∷ []))) w
      (w.base.frames i lt
      ∙ ap (λ (t : Token). Some (closed_frame (name_label i) (t ∷ (name_of declared i ∷ []))))
      typed);
  constant =
      w.base.variables (name_of declared i)
      (name_facts (name_of declared i) (name_at declared i w.names lt)).no_variable_token
      ∙ (name_facts (name_of declared i) (name_at declared i w.names lt)).no_variable;
}

serves_plain : (declared : List Token) (claims : List Claim) (c : Context) (k : ℕ)
    → HoldsClaims declared claims c
    → Serves c (own_labels k) (own_naming declared) (open_over declared [])
serves_plain declared claims c k w = record {
  header = λ label f h. assertion_at declared claims c label f w (w.base.rows label f h);
  fixed = fixed_variables declared c punctuation w.base refl ∙ fixed_constants;
  sort = λ i h. declares declared claims c (codes "#Sort") i w h.0 h.1;
  constant = λ i h. declares declared claims c (codes "#Pattern") i w h.0 h.1;
  object = λ x h. absurd (false≢true h);
  meta = λ i h. absurd (false≢true h);
  objects_apart = λ x y hx hy differ. absurd (false≢true hx);
  meta_apart = λ x i hx hi. absurd (false≢true hx);
  apart_meta = λ x i hx hi. absurd (false≢true hx);
}

no_premise : (k : ℕ) (p : Pattern) → slice_get [] k ≡ Some p → ⊥
no_premise k p h = cc

plain_proves : (declared : List Token) (claims : List Claim) (c : Context) (p : Pattern)
    (d : Derivation) (place : List Pattern → Pattern → ℕ) (premise_place : Pattern → ℕ)
    → HoldsClaims declared claims c
    → IsProvable declared claims (plain_claim p) [] d place premise_place
    → Proves c (derivation_tree (own_labels (length claims))
    (claims_citing (length claims) (at_places claims place) premise_place) d)
    (holds_text (own_naming declared) p)
plain_proves declared claims c p d place premise_place w provable =
    cited_proves c (own_labels (length claims)) (own_naming declared) (open_over declared []) []
    (citable (open_over declared []) claims place)
    (claims_citing (length claims) (at_places claims place) premise_place)
    (serves_plain declared claims c (length claims) w)
    (citing_is_sound c declared (open_over declared []) claims (length claims) [] place
    premise_place w.names (serves_plain declared claims c (length claims) w)
    (record {
      claimed = λ i s there. claim_at_place declared claims i s w.claimed there;
      frames =
          λ i s there. assertion_at declared claims c (statement_label i) (open_frame declared i s)
          w (w.frames i s there);
      premises = λ j q there. absurd (no_premise j q there);
    })
    provable.premises) d p provable.concludes provable.used provable.cites

pub plain_theorem_adds : (declared : List Token) (claims : List Claim) (c : Context) (at : ℕ)
    (p : Pattern) (d : Derivation) (place : List Pattern → Pattern → ℕ)
    (premise_place : Pattern → ℕ) (proof : List Token) → HoldsClaims declared claims c
    → length claims < 2 ^ 64 → IsClaim declared (plain_claim p)
    → IsProvable declared claims (plain_claim p) [] d place premise_place
    → IsProofOfClaim declared (length claims) (at_places claims place) premise_place
    (plain_claim p) d proof
    → AddsJust c at (theorem_statement declared (length claims) p proof ∷ [])
    (behind_block declared (length claims) c (plain_claim p) [])
    (open_assertion true declared (length claims) (plain_claim p)) []
plain_theorem_adds declared claims c at p d place premise_place proof w few claim provable text =
    let tree : ProofTree =
    derivation_tree (own_labels (length claims))
    (claims_citing (length claims) (at_places claims place) premise_place) d in
    let proved : Proves c (derivation_tree (own_labels (length claims))
    (claims_citing (length claims) (at_places claims place) premise_place) d)
    (holds_text (own_naming declared) p) =
    plain_proves declared claims c p d place premise_place w provable in
    plain_adds declared (length claims) c at p true
    (theorem_statement declared (length claims) p proof) w.base w.names claim
    (theorem_asserts declared (length claims) c p tree proof few
    (open_symbols declared [] p w.names tt claim.over.0)
    (plain_may_be_stated declared claims c p w few claim)
    (postorder_spelt c tree (holds_text (own_naming declared) p)
    (header_active_spelt c w.base.scope) w.spelt proved) proved
    (subst (λ (f : Frame). Compresses (mandatory_labels f)
    (derivation_tree (own_labels (length claims))
    (claims_citing (length claims) (at_places claims place) premise_place) d) proof)
    (sym (plain_frame declared (length claims) c p w.base w.names claim)) text))
