-- Statements after a text that fits. The header fits. An axiom and a theorem may follow, each in
-- its block if it needs one.
use Rattle.std.proofs.Common.{◌≡◌, ℕ, ◌+◌, ◌<◌, ◌^◌, Bool, true, false, List, [], ◌∷◌, ◌++◌, length}
use Rattle.std.proofs.Common.{map, refl, ap, ◌∙◌, sym, subst, arith, append-nil, Some, None}
use Rattle.std.proofs.Common.{slice_get}
use Rattle.std.specs.Prelude.{◌||◌, codes, bytes_eq}
use Rattle.std.specs.List.{list_all}
use Rattle.std.proofs.lemmas.Bool.{false≢true}
use Rattle.std.proofs.lemmas.Slice.Eq.{bytes_eq-Decides}
use Rattle.mm_text.specs.Bytes.{Token, has_token}
use Rattle.mm_text.specs.Labels.{is_label}
use Rattle.mm_database.specs.Frames.{Hypothesis, label_of, Scope, Frame}
use Rattle.mm_database.specs.Proofs.{hypothesis_of, ProofTree, Proves}
use Rattle.mm_database.specs.Database.{Context, with_assertion}
use Rattle.mm_database.specs.Assertions.{Assertion, assertions_of, typings_of}
use Rattle.mm_database.specs.ProofText.{mandatory_labels}
use Rattle.mm_database.specs.Compressing.{is_compressed, all_compressed}
use Rattle.mm_database.specs.ProofTexts.{Compresses}
use Rattle.mm_database.specs.FrameLaws.{Adds}
use Rattle.mm_database.specs.Forms.{form_of}
use Rattle.mm_database.proofs.Continued.{continued_leaves, leaves_is_valid, appended_compressed}
use Rattle.mm_database.proofs.Stated.{appended_states}
use Rattle.mm_header.specs.Header.{Row, header_rows}
use Rattle.mm_header.specs.HeaderContext.{header_context, header_labels}
use Rattle.mm_header.proofs.HeaderFrames.{header_only}
use Rattle.mm_header.proofs.HeaderValid.{header_fine, header_ends}
use Rattle.ml_pat.specs.Patterns.{Pattern}
use Rattle.ml_kernel.specs.Theorems.{Derivation}
use Rattle.mm_proof.specs.Tokens.{own_naming}
use Rattle.mm_proof.specs.Labels.{statement_label, premise_label, own_labels}
use Rattle.mm_proof.specs.Derivations.{holds_text, derivation_tree}
use Rattle.ml_pat.proofs.LeafLaws.{split_true, both_true}
use Rattle.mm_proof.proofs.CitingDerivations.{cited_proves}
use Rattle.mm_claims.specs.Fitting.{Holds}
use Rattle.mm_claims.specs.CitedAt.{at_places, claims_citing}
use Rattle.mm_claims.specs.Citable.{citable}
use Rattle.mm_claims.specs.Variables.{Variable, object_variable, pattern_variable, are_once}
use Rattle.mm_claims.specs.Variables.{AreNumbered, variable_token, variable_label}
use Rattle.mm_claims.specs.Blocks.{Claim, IsClaim, head_statements, block, axiom_block}
use Rattle.mm_claims.specs.Blocks.{theorem_block, axiom_statements, theorem_statements}
use Rattle.mm_claims.specs.Blocks.{variable_float}
use Rattle.mm_claims.specs.Blocks.{premise_hypotheses, open_frame, open_assertion}
use Rattle.mm_claims.specs.OverNames.{open_over, AreOpenOver}
use Rattle.mm_claims.specs.Statements.{axiom_statement, theorem_statement}
use Rattle.mm_claims.specs.Claiming.{FitsClaims, HoldsClaims, IsProofOfClaim, GainsExactly}
use Rattle.mm_claims.specs.Provable.{IsProvable}
use Rattle.mm_claims.specs.StatementLaws.{ClaimsAreValid, HeaderFitsClaims, AxiomFits, TheoremFits}
use Rattle.mm_claims.specs.StatementLaws.{AxiomIsGained, TheoremIsGained, ClaimsAreCompressed}
use Rattle.mm_claims.proofs.SpeltLaws.{header_spelt, hypothesis_spelt, types_spelt, postorder_spelt}
use Rattle.mm_claims.proofs.FittingLaws.{header_holds, header_closed}
use Rattle.mm_claims.proofs.StatedLaws.{header_no_active}
use Rattle.mm_claims.proofs.VariableLaws.{label_spelt, premise_spelt}
use Rattle.mm_claims.proofs.InsideLaws.{AddsAnywhere, AddsJust, Asserts, asserted, asserted_in}
use Rattle.mm_claims.proofs.InsideLaws.{assertion_adds, block_closes, typed_in, untyped}
use Rattle.mm_claims.proofs.OpenTexts.{open_symbols, own_hypotheses}
use Rattle.mm_claims.proofs.HeadTypings.{block_typed}
use Rattle.mm_claims.proofs.CompressedTexts.{header_compressed, block_compressed}
use Rattle.mm_claims.proofs.OpenFrames.{frame_is}
use Rattle.mm_claims.proofs.OpenServes.{serves_inside}
use Rattle.mm_claims.proofs.CitedLaws.{claims_sound}
use Rattle.mm_claims.proofs.BlockLaws.{inside_block, behind_block, block_left, claims_hold, ground}
use Rattle.mm_claims.proofs.BlockLaws.{all_more_variables, claim_may_be_stated, block_adds}
use Rattle.mm_claims.proofs.PlainStatements.{axiom_asserts, theorem_asserts, plain_axiom_adds}
use Rattle.mm_claims.proofs.PlainStatements.{plain_theorem_adds}
use Rattle.mm_database.specs.Leaving.{DeclaresInText}
use Rattle.mm_database.specs.StatementTexts.{written_statements}

pub claims_are_valid : ClaimsAreValid
claims_are_valid declared claims bytes (c, leaves, w, compressed) = leaves_is_valid bytes c leaves

pub claims_are_compressed : ClaimsAreCompressed
claims_are_compressed declared claims bytes (c, leaves, w, compressed) = compressed

-- the header

header_variable_free : (k : ℕ) (v : Variable) → header_context.labels (variable_label k v) ≡ false
unfolding header_context header_rows header_labels
header_variable_free k (object_variable i) = refl
header_variable_free k (pattern_variable i) = refl

header_premise_free : (k j : ℕ) → header_context.labels (premise_label k j) ≡ false
unfolding header_context header_rows header_labels
header_premise_free k j = refl

header_statement_free : (k : ℕ) → header_context.labels (statement_label k) ≡ false
unfolding header_context header_rows header_labels
header_statement_free k = refl

header_token_free : (v : Variable) → header_context.labels (variable_token v) ≡ false
unfolding header_context header_rows header_labels
header_token_free (object_variable i) = refl
header_token_free (pattern_variable i) = refl

rows_labelled : list_all header_context.labels (map (λ (r : Row). r.label) header_rows) ≡ true
unfolding header_context header_rows header_labels
rows_labelled = refl

among : (test : Token → Bool) (ts : List Token) (t : Token) → has_token ts t ≡ true
    → list_all test ts ≡ true → test t ≡ true
among test [] t there all = absurd (false≢true there)
among test (u ∷ ts) t there all =
    go (bytes_eq u t) refl there (split_true (test u) (list_all test ts) all) (among test ts t)
  where
    go : (b : Bool) → bytes_eq u t ≡ b → (b || has_token ts t) ≡ true
        → ((test u ≡ true) × (list_all test ts ≡ true))
        → (has_token ts t ≡ true → list_all test ts ≡ true → test t ≡ true) → test t ≡ true
    go true is found both behind = ap test (sym ((bytes_eq-Decides u t).0 is)) ∙ both.0
    go false is found both behind = behind found both.1

none_some : (f : Frame) → None ≡ Some f → ⊥
none_some f h = cc

header_labelled : (label : Token) (f : Frame) → header_context.frames label ≡ Some f
    → header_context.labels label ≡ true
header_labelled label f h = go (has_token (map (λ (r : Row). r.label) header_rows) label) refl
  where
    go : (b : Bool) → has_token (map (λ (r : Row). r.label) header_rows) label ≡ b
        → header_context.labels label ≡ true
    go true there =
        among header_context.labels (map (λ (r : Row). r.label) header_rows) label there
        rows_labelled
    go false none = absurd (none_some f (sym (header_only label none) ∙ h))

no_claim : (k : ℕ) (s : Claim) → slice_get [] k ≡ Some s → ⊥
no_claim k s h = cc

pub header_fits_claims : HeaderFitsClaims
header_fits_claims = (
  header_context,
  record { white = header_ends; fine = header_fine; closed = header_closed },
  record {
    base = header_holds;
    names = tt;
    claimed = tt;
    frames = λ k s h. absurd (no_claim k s h);
    free =
        λ k le lt. record {
          statement = header_statement_free k;
          variable = λ v h. header_variable_free k v;
          premise = λ j h. header_premise_free k j;
        };
    no_label = header_token_free;
    spelt = header_spelt;
    labelled = header_labelled;
    no_hypothesis = header_no_active;
  },
  header_compressed,
)

-- the context, assertions and typings of written statements are what the text has gained

fits_by : (declared : List Token) (claims : List Claim) (bytes : List ℕ) (c : Context) (s : Claim)
    (vs : List Variable) (sts : List (List Token)) (a : Assertion) (hs : List Hypothesis)
    → DeclaresInText bytes c → HoldsClaims declared claims c → all_compressed bytes ≡ true
    → length claims < 2 ^ 64 → IsClaim declared s
    → AddsJust c (length bytes) sts (behind_block declared (length claims) c s vs) a hs
    → FitsClaims declared (claims ++ s ∷ []) (bytes ++ written_statements sts)
fits_by declared claims bytes c s vs sts a hs leaves w compressed few claim just = (
  behind_block declared (length claims) c s vs,
  continued_leaves bytes c (behind_block declared (length claims) c s vs) sts leaves just.adds
      leaves.closed,
  claims_hold declared claims c s vs w few claim,
  appended_compressed bytes sts c (behind_block declared (length claims) c s vs) leaves just.adds
      ∙ both_true (all_compressed bytes) (list_all (λ ts. is_compressed (form_of ts)) sts)
      compressed just.compressed,
)

gained_by : (c left : Context) (bytes : List ℕ) (sts : List (List Token)) (a : Assertion) (k : ℕ)
    (vs : List Variable) → DeclaresInText bytes c
    → AddsJust c (length bytes) sts left a (map (variable_float k) vs)
    → GainsExactly bytes (written_statements sts) k vs a
gained_by c left bytes sts a k vs leaves just = record {
  assertions = (appended_states bytes (written_statements sts) c leaves.white leaves.fine).0
      ∙ ap (λ (as' : List Assertion). assertions_of bytes ++ as')
      (asserted_in c (length bytes) sts left just.adds ∙ just.makes);
  typings = (appended_states bytes (written_statements sts) c leaves.white leaves.fine).1
      ∙ ap (λ (hs : List Hypothesis). typings_of bytes ++ hs)
      (typed_in c (length bytes) sts left just.adds ∙ just.types);
}

-- the assertion of a claim, in its block
block_adds_claim : (declared : List Token) (claims : List Claim) (c : Context) (at : ℕ) (s : Claim)
    (more : List Variable) (proved : Bool) (tokens : List Token) → HoldsClaims declared claims c
    → length claims < 2 ^ 64 → IsClaim declared s → are_once (s.variables ++ more) ≡ true
    → AreNumbered (s.variables ++ more)
    → Asserts (inside_block declared (length claims) c at (s.variables ++ more) s.hypotheses)
    (statement_label (length claims)) (holds_text (own_naming declared) s.conclusion) proved
    tokens
    → AddsJust c at (block (head_statements declared (length claims) (s.variables ++ more)
    s.hypotheses ++ tokens ∷ []))
    (behind_block declared (length claims) c s (s.variables ++ more))
    (open_assertion proved declared (length claims) s)
    (map (variable_float (length claims)) (s.variables ++ more))
block_adds_claim declared claims c at s more proved tokens w few claim once numbered says =
    let k : ℕ = length claims in
    let vs : List Variable = s.variables ++ more in
    let text : List Token = holds_text (own_naming declared) s.conclusion in
    let over : AreOpenOver declared (s.variables ++ more) s.hypotheses =
    all_more_variables declared s.variables more s.hypotheses claim.over.1 in
    let both : Adds c at (block (head_statements declared (length claims) (s.variables ++ more)
    s.hypotheses ++ tokens ∷ []))
    (behind_block declared (length claims) c s (s.variables ++ more)) × (asserted c at
    (block (head_statements declared (length claims) (s.variables ++ more) s.hypotheses
    ++ tokens ∷ [])) ≡ open_assertion proved declared (length claims) s ∷ []) =
    block_adds declared k c at vs s.hypotheses tokens (record {
      context =
          behind_block declared (length claims) c s (s.variables ++ more);
      assertions = open_assertion proved declared (length claims) s ∷ [];
    })
    (ground declared claims c w few) numbered once over claim.few
    (assertion_adds (inside_block declared (length claims) c at (s.variables ++ more) s.hypotheses)
    (statement_label k) text proved tokens (open_frame declared k s) ((codes "$}" ∷ []) ∷ [])
    (behind_block declared (length claims) c s (s.variables ++ more)) says
    (frame_is declared k c at s more w.base w.names claim once numbered)
    (subst (λ (left : Context). AddsAnywhere (with_assertion
    (inside_block declared (length claims) c at (s.variables ++ more) s.hypotheses)
    (statement_label (length claims)) (holds_text (own_naming declared) s.conclusion))
    ((codes "$}" ∷ []) ∷ []) (record { context = left; assertions = [] }))
    (block_left declared k c at s more w.base w.names claim once numbered)
    (block_closes (with_assertion
    (inside_block declared (length claims) c at (s.variables ++ more) s.hypotheses)
    (statement_label (length claims)) (holds_text (own_naming declared) s.conclusion))
    (record { at = at; outside = c.scope }) c.blocks refl))) in
    record {
      adds = both.0;
      makes = both.1;
      types =
          block_typed declared k vs s.hypotheses tokens w.names few numbered once over claim.few
          (untyped
          (inside_block declared (length claims) c at (s.variables ++ more) s.hypotheses)
          (statement_label k) text proved tokens says);
      compressed =
          block_compressed declared k vs s.hypotheses tokens w.names few numbered once over
          claim.few says.compressed;
    }

-- a claim with these parts
abbrev claim_of : List Variable → List Pattern → Pattern → Claim
claim_of vs ps q = record { variables = vs; hypotheses = ps; conclusion = q }

-- an axiom

axiom_block_adds : (declared : List Token) (claims : List Claim) (c : Context) (at : ℕ) (s : Claim)
    → HoldsClaims declared claims c → length claims < 2 ^ 64 → IsClaim declared s
    → AddsJust c at (axiom_block declared (length claims) s)
    (behind_block declared (length claims) c s s.variables)
    (open_assertion false declared (length claims) s)
    (map (variable_float (length claims)) s.variables)
axiom_block_adds declared claims c at s w few claim =
    let once : are_once (s.variables ++ []) ≡ true =
    subst (λ (vs : List Variable). are_once vs ≡ true) (sym (append-nil s.variables))
    claim.once in
    let numbered : AreNumbered (s.variables ++ []) =
    subst AreNumbered (sym (append-nil s.variables)) claim.numbered in
    subst (λ (vs : List Variable). AddsJust c at (block (head_statements declared (length claims) vs
    s.hypotheses ++ axiom_statement declared (length claims) s.conclusion ∷ []))
    (behind_block declared (length claims) c s vs)
    (open_assertion false declared (length claims) s) (map (variable_float (length claims)) vs))
    (append-nil s.variables)
    (block_adds_claim declared claims c at s [] false
    (axiom_statement declared (length claims) s.conclusion) w few claim once numbered
    (axiom_asserts declared (length claims)
    (inside_block declared (length claims) c at (s.variables ++ []) s.hypotheses) s.conclusion
    few (open_symbols declared s.variables s.conclusion w.names claim.numbered claim.over.0)
    (claim_may_be_stated declared (length claims) c at s [] (ground declared claims c w few) claim
    numbered)))

-- in its block if it needs one
axiom_adds : (declared : List Token) (claims : List Claim) (c : Context) (at : ℕ)
    (vs : List Variable) (ps : List Pattern) (q : Pattern) → HoldsClaims declared claims c
    → length claims < 2 ^ 64 → IsClaim declared (claim_of vs ps q)
    → AddsJust c at (axiom_statements declared (length claims) (claim_of vs ps q))
    (behind_block declared (length claims) c (claim_of vs ps q) vs)
    (open_assertion false declared (length claims) (claim_of vs ps q))
    (map (variable_float (length claims)) vs)
axiom_adds declared claims c at [] [] q w few claim =
    plain_axiom_adds declared claims c at q w few claim
axiom_adds declared claims c at [] (p ∷ ps) q w few claim =
    axiom_block_adds declared claims c at (claim_of [] (p ∷ ps) q) w few claim
axiom_adds declared claims c at (v ∷ vs) ps q w few claim =
    axiom_block_adds declared claims c at (claim_of (v ∷ vs) ps q) w few claim

pub axiom_fits : AxiomFits
axiom_fits declared claims bytes s (c, leaves, w, compressed) few claim =
    fits_by declared claims bytes c s s.variables (axiom_statements declared (length claims) s)
    (open_assertion false declared (length claims) s)
    (map (variable_float (length claims)) s.variables) leaves w compressed few claim
    (axiom_adds declared claims c (length bytes) s.variables s.hypotheses s.conclusion w few claim)

pub axiom_is_gained : AxiomIsGained
axiom_is_gained declared claims bytes s (c, leaves, w, compressed) few claim =
    gained_by c (behind_block declared (length claims) c s s.variables) bytes
    (axiom_statements declared (length claims) s)
    (open_assertion false declared (length claims) s) (length claims) s.variables leaves
    (axiom_adds declared claims c (length bytes) s.variables s.hypotheses s.conclusion w few claim)

-- a theorem

floats_spelt : (k : ℕ) (vs : List Variable) → k < 2 ^ 64 → AreNumbered vs
    → list_all (λ h. is_label (label_of h)) (map (variable_float k) vs) ≡ true
floats_spelt k [] small all = refl
floats_spelt k (v ∷ vs) small all =
    both_true (is_label (variable_label k v)) _ (label_spelt k v small all.0)
    (floats_spelt k vs small all.1)

premises_spelt : (declared : List Token) (k j : ℕ) (ps : List Pattern) → k < 2 ^ 64
    → j + length ps < 2 ^ 64
    → list_all (λ h. is_label (label_of h)) (premise_hypotheses declared k j ps) ≡ true
premises_spelt declared k j [] small few = refl
premises_spelt declared k j (p ∷ ps) small few =
    both_true (is_label (premise_label k j)) _ (premise_spelt k j small (omega (arith, few)))
    (premises_spelt declared k (j + 1) ps small (omega (arith, few)))

all_both : (test : Hypothesis → Bool) (xs ys : List Hypothesis) → list_all test xs ≡ true
    → list_all test ys ≡ true → list_all test (xs ++ ys) ≡ true
all_both test [] ys h g = g
all_both test (x ∷ xs) ys h g =
    both_true (test x) _ (split_true (test x) (list_all test xs) h).0
    (all_both test xs ys (split_true (test x) (list_all test xs) h).1 g)

-- the labels of what is active inside a block are well spelled
active_spelt : (declared : List Token) (k : ℕ) (c : Context) (at : ℕ) (vs : List Variable)
    (ps : List Pattern) → Holds declared c → k < 2 ^ 64 → AreNumbered vs → length ps < 2 ^ 64
    → (l : Token) (h : Hypothesis)
    → hypothesis_of (inside_block declared k c at vs ps).scope.hypotheses l ≡ Some h
    → is_label l ≡ true
active_spelt declared k c at vs ps w small numbered few l h is =
    hypothesis_spelt (c.scope.hypotheses ++ own_hypotheses declared k vs ps) l h
    (all_both (λ g. is_label (label_of g)) c.scope.hypotheses (own_hypotheses declared k vs ps)
    (ap (λ (s : Scope). list_all (λ g. is_label (label_of g)) s.hypotheses) w.scope
    ∙ types_spelt)
    (all_both (λ g. is_label (label_of g)) (map (variable_float k) vs)
    (premise_hypotheses declared k 0 ps) (floats_spelt k vs small numbered)
    (premises_spelt declared k 0 ps small (omega (arith, few))))) is

-- the proof of a claim, by a derivation
abbrev claim_proof : ℕ → List Claim → (List Pattern → Pattern → ℕ) → (Pattern → ℕ) → Derivation
    → ProofTree
claim_proof k claims place premise_place d =
    derivation_tree (own_labels k) (claims_citing k (at_places claims place) premise_place) d

theorem_proves : (declared : List Token) (claims : List Claim) (c : Context) (at : ℕ) (s : Claim)
    (more : List Variable) (d : Derivation) (place : List Pattern → Pattern → ℕ)
    (premise_place : Pattern → ℕ) → HoldsClaims declared claims c → length claims < 2 ^ 64
    → IsClaim declared s → IsProvable declared claims s more d place premise_place
    → Proves (inside_block declared (length claims) c at (s.variables ++ more) s.hypotheses)
    (claim_proof (length claims) claims place premise_place d)
    (holds_text (own_naming declared) s.conclusion)
theorem_proves declared claims c at s more d place premise_place w few claim provable =
    cited_proves (inside_block declared (length claims) c at (s.variables ++ more) s.hypotheses)
    (own_labels (length claims)) (own_naming declared)
    (open_over declared (s.variables ++ more)) s.hypotheses
    (citable (open_over declared (s.variables ++ more)) claims place)
    (claims_citing (length claims) (at_places claims place) premise_place)
    (serves_inside declared claims c at (s.variables ++ more) s.hypotheses w few provable.numbered
    claim.few)
    (claims_sound declared claims c at (s.variables ++ more) s.hypotheses place premise_place w few
    provable.numbered claim.few provable.premises) d s.conclusion provable.concludes
    provable.used provable.cites

theorem_block_adds : (declared : List Token) (claims : List Claim) (c : Context) (at : ℕ)
    (s : Claim) (more : List Variable) (d : Derivation) (place : List Pattern → Pattern → ℕ)
    (premise_place : Pattern → ℕ) (proof : List Token) → HoldsClaims declared claims c
    → length claims < 2 ^ 64 → IsClaim declared s
    → IsProvable declared claims s more d place premise_place
    → IsProofOfClaim declared (length claims) (at_places claims place) premise_place s d proof
    → AddsJust c at (theorem_block declared (length claims) s more proof)
    (behind_block declared (length claims) c s (s.variables ++ more))
    (open_assertion true declared (length claims) s)
    (map (variable_float (length claims)) (s.variables ++ more))
theorem_block_adds declared claims c at s more d place premise_place proof w few claim provable
    text =
    let inner : Context =
    inside_block declared (length claims) c at (s.variables ++ more) s.hypotheses in
    let tree : ProofTree = claim_proof (length claims) claims place premise_place d in
    let proved : Proves
    (inside_block declared (length claims) c at (s.variables ++ more) s.hypotheses)
    (claim_proof (length claims) claims place premise_place d)
    (holds_text (own_naming declared) s.conclusion) =
    theorem_proves declared claims c at s more d place premise_place w few claim provable in
    block_adds_claim declared claims c at s more true
    (theorem_statement declared (length claims) s.conclusion proof) w few claim
    provable.once provable.numbered
    (theorem_asserts declared (length claims) inner s.conclusion tree proof few
    (open_symbols declared s.variables s.conclusion w.names claim.numbered claim.over.0)
    (claim_may_be_stated declared (length claims) c at s more (ground declared claims c w few) claim
    provable.numbered)
    (postorder_spelt inner tree (holds_text (own_naming declared) s.conclusion)
    (active_spelt declared (length claims) c at (s.variables ++ more) s.hypotheses w.base
    few provable.numbered claim.few) w.spelt proved) proved
    (subst (λ (f : Frame). Compresses (mandatory_labels f)
    (claim_proof (length claims) claims place premise_place d) proof)
    (sym (frame_is declared (length claims) c at s more w.base w.names claim provable.once
    provable.numbered)) text))

-- in its block if it needs one
theorem_adds : (declared : List Token) (claims : List Claim) (c : Context) (at : ℕ)
    (vs : List Variable) (ps : List Pattern) (q : Pattern) (more : List Variable)
    (d : Derivation) (place : List Pattern → Pattern → ℕ) (premise_place : Pattern → ℕ)
    (proof : List Token) → HoldsClaims declared claims c → length claims < 2 ^ 64
    → IsClaim declared (claim_of vs ps q)
    → IsProvable declared claims (claim_of vs ps q) more d place premise_place
    → IsProofOfClaim declared (length claims) (at_places claims place) premise_place
    (claim_of vs ps q) d proof
    → AddsJust c at (theorem_statements declared (length claims) (claim_of vs ps q) more proof)
    (behind_block declared (length claims) c (claim_of vs ps q) (vs ++ more))
    (open_assertion true declared (length claims) (claim_of vs ps q))
    (map (variable_float (length claims)) (vs ++ more))
theorem_adds declared claims c at [] [] q [] d place premise_place proof w few claim provable text =
    plain_theorem_adds declared claims c at q d place premise_place proof w few claim provable text
theorem_adds declared claims c at [] (p ∷ ps) q [] d place premise_place proof w few claim provable
    text =
    theorem_block_adds declared claims c at (claim_of [] (p ∷ ps) q) [] d place premise_place proof
    w few claim provable text
theorem_adds declared claims c at [] ps q (v ∷ more) d place premise_place proof w few claim
    provable text =
    theorem_block_adds declared claims c at (claim_of [] ps q) (v ∷ more) d place premise_place
    proof w few claim provable text
theorem_adds declared claims c at (v ∷ vs) ps q more d place premise_place proof w few claim
    provable text =
    theorem_block_adds declared claims c at (claim_of (v ∷ vs) ps q) more d place premise_place
    proof w few claim provable text

pub theorem_fits : TheoremFits
theorem_fits declared claims bytes s more d place premise_place proof (c, leaves, w, compressed) few
    claim provable text =
    fits_by declared claims bytes c s (s.variables ++ more)
    (theorem_statements declared (length claims) s more proof)
    (open_assertion true declared (length claims) s)
    (map (variable_float (length claims)) (s.variables ++ more)) leaves w compressed few claim
    (theorem_adds declared claims c (length bytes) s.variables s.hypotheses s.conclusion more d
    place premise_place proof w few claim provable text)

pub theorem_is_gained : TheoremIsGained
theorem_is_gained declared claims bytes s more d place premise_place proof
    (c, leaves, w, compressed) few claim provable text =
    gained_by c (behind_block declared (length claims) c s (s.variables ++ more)) bytes
    (theorem_statements declared (length claims) s more proof)
    (open_assertion true declared (length claims) s) (length claims) (s.variables ++ more)
    leaves
    (theorem_adds declared claims c (length bytes) s.variables s.hypotheses s.conclusion more d
    place premise_place proof w few claim provable text)
