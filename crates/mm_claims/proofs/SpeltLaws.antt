-- The labels of a proof are well spelled.
use Rattle.std.proofs.Common.{◌≡◌, ℕ, ◌<◌, ◌^◌, Bool, true, false, List, [], ◌∷◌, refl, ap, ◌∙◌}
use Rattle.std.proofs.Common.{sym, map}
use Rattle.std.specs.Prelude.{◌||◌, if◌then◌else◌, bytes_eq, Some, None}
use Rattle.std.specs.List.{list_all}
use Rattle.std.proofs.lemmas.Bool.{false≢true}
use Rattle.std.proofs.lemmas.Slice.Eq.{bytes_eq-Decides}
use Rattle.mm_text.specs.Bytes.{Token, has_token}
use Rattle.mm_text.specs.Labels.{is_label_byte, is_label}
use Rattle.mm_database.specs.Frames.{Hypothesis, label_of, Frame}
use Rattle.mm_database.specs.Database.{Context}
use Rattle.mm_database.specs.Proofs.{Expression, Leads, by_hypothesis, by_assertion, hypothesis_of}
use Rattle.mm_database.specs.Proofs.{ProofTree, proof_node, ProofForest, no_proof, more_proofs}
use Rattle.mm_database.specs.Proofs.{Proves, AllProve, postorder, all_postorder}
use Rattle.mm_header.specs.Header.{Row, header_rows}
use Rattle.mm_header.specs.HeaderContext.{header_context}
use Rattle.mm_header.proofs.HeaderFrames.{header_only}
use Rattle.mm_proof.specs.Labels.{statement_label}
use Rattle.ml_pat.proofs.LeafLaws.{both_true, split_true}
use Rattle.mm_proof.proofs.LeafLaws.{list_all-append}
use Rattle.mm_proof.proofs.Decimals.{list_all-decimal, decimal-same}
use Rattle.mm_claims.proofs.NameLaws.{digit_of_label}

-- the labels of the header's rows are well spelled

rows_spelt : list_all is_label (map (λ (r : Row). r.label) header_rows) ≡ true
unfolding header_rows
rows_spelt = refl

among : (ts : List Token) (t : Token) → has_token ts t ≡ true → list_all is_label ts ≡ true
    → is_label t ≡ true
among [] t there all = absurd (false≢true there)
among (u ∷ ts) t there all =
    go (bytes_eq u t) refl there (split_true (is_label u) (list_all is_label ts) all) (among ts t)
  where
    go : (b : Bool) → bytes_eq u t ≡ b → (b || has_token ts t) ≡ true
        → ((is_label u ≡ true) × (list_all is_label ts ≡ true))
        → (has_token ts t ≡ true → list_all is_label ts ≡ true → is_label t ≡ true)
        → is_label t ≡ true
    go true is found both behind = ap is_label (sym ((bytes_eq-Decides u t).0 is)) ∙ both.0
    go false is found both behind = behind found both.1

pub header_spelt : (label : Token) (f : Frame) → header_context.frames label ≡ Some f
    → is_label label ≡ true
header_spelt label f h = go (has_token (map (λ (r : Row). r.label) header_rows) label) refl
  where
    go : (b : Bool) → has_token (map (λ (r : Row). r.label) header_rows) label ≡ b
        → is_label label ≡ true
    go true there = among (map (λ (r : Row). r.label) header_rows) label there rows_spelt
    go false none =
        absurd (let never : Some f ≡ None = sym h ∙ header_only label none in let z : ⊥ = cc in z)

-- the labels of the header's `$f`s are well spelled

pub types_spelt : list_all (λ h. is_label (label_of h)) header_context.scope.hypotheses ≡ true
unfolding header_context
types_spelt = refl

pub hypothesis_spelt : (hs : List Hypothesis) (label : Token) (h : Hypothesis)
    → list_all (λ g. is_label (label_of g)) hs ≡ true → hypothesis_of hs label ≡ Some h
    → is_label label ≡ true
hypothesis_spelt [] label h all found = absurd (let z : ⊥ = cc in z)
hypothesis_spelt (g ∷ hs) label h all found =
    go (bytes_eq (label_of g) label) refl found
    (split_true (is_label (label_of g)) (list_all (λ k. is_label (label_of k)) hs) all)
    (hypothesis_spelt hs label h)
  where
    go : (b : Bool) → bytes_eq (label_of g) label ≡ b
        → (if b then Some g else hypothesis_of hs label) ≡ Some h
        → ((is_label (label_of g) ≡ true) × (list_all (λ k. is_label (label_of k)) hs ≡ true))
        → (list_all (λ k. is_label (label_of k)) hs ≡ true → hypothesis_of hs label ≡ Some h
        → is_label label ≡ true) → is_label label ≡ true
    go true is there both behind =
        ap is_label (sym ((bytes_eq-Decides (label_of g) label).0 is)) ∙ both.0
    go false is there both behind = behind both.1 there

-- each label of a proof is that of an assertion or of an active hypothesis

leads_spelt : {c : Context} {label : Token} {given : List Expression} {result : Expression}
    → ((l : Token) (h : Hypothesis) → hypothesis_of c.scope.hypotheses l ≡ Some h
    → is_label l ≡ true) → ((l : Token) (f : Frame) → c.frames l ≡ Some f → is_label l ≡ true)
    → Leads c label given result → is_label label ≡ true
leads_spelt {c = c} {label = label} active spelt (by_hypothesis h is) = active label h is
leads_spelt {c = c} {label = label} active spelt
    (by_assertion f sigma given result none is applies) =
    spelt label f is

-- the same is true if only the header is active
pub header_active_spelt : (c : Context) → c.scope ≡ header_context.scope
    → (l : Token) (h : Hypothesis) → hypothesis_of c.scope.hypotheses l ≡ Some h → is_label l ≡ true
header_active_spelt c scope l h is =
    hypothesis_spelt header_context.scope.hypotheses l h types_spelt
    (ap (λ s. hypothesis_of s.hypotheses l) (sym scope) ∙ is)

mutual
  pub postorder_spelt : (c : Context) (tree : ProofTree) (e : Expression)
      → ((l : Token) (h : Hypothesis) → hypothesis_of c.scope.hypotheses l ≡ Some h
      → is_label l ≡ true) → ((l : Token) (f : Frame) → c.frames l ≡ Some f → is_label l ≡ true)
      → Proves c tree e → list_all is_label (postorder tree) ≡ true
  postorder_spelt c (proof_node label trees) e active spelt (given, leads, all) =
      list_all-append is_label (all_postorder trees) (label ∷ [])
      (all_postorder_spelt c trees given active spelt all)
      (both_true (is_label label) true (leads_spelt active spelt leads) refl)

  all_postorder_spelt : (c : Context) (trees : ProofForest) (es : List Expression)
      → ((l : Token) (h : Hypothesis) → hypothesis_of c.scope.hypotheses l ≡ Some h
      → is_label l ≡ true) → ((l : Token) (f : Frame) → c.frames l ≡ Some f → is_label l ≡ true)
      → AllProve c trees es → list_all is_label (all_postorder trees) ≡ true
  all_postorder_spelt c no_proof es active spelt all = refl
  all_postorder_spelt c (more_proofs tree trees) es active spelt (first, rest, is, proof, all) =
      list_all-append is_label (postorder tree) (all_postorder trees)
      (postorder_spelt c tree first active spelt proof)
      (all_postorder_spelt c trees rest active spelt all)

-- the label of a statement

pub statement_label-is_label : (k : ℕ) → k < 2 ^ 64 → is_label (statement_label k) ≡ true
statement_label-is_label k h = list_all-decimal is_label_byte digit_of_label k h

pub statement_label-differs : (i j : ℕ) → i < 2 ^ 64 → j < 2 ^ 64 → (i ≡ j → ⊥)
    → bytes_eq (statement_label i) (statement_label j) ≡ false
statement_label-differs i j h k differ = go (bytes_eq (statement_label i) (statement_label j)) refl
  where
    behind : Token → Token
    behind [] = []
    behind (a ∷ []) = []
    behind (a ∷ (b ∷ bs)) = bs

    go : (b : Bool) → bytes_eq (statement_label i) (statement_label j) ≡ b
        → bytes_eq (statement_label i) (statement_label j) ≡ false
    go true is =
        absurd (differ (decimal-same i j h k
        (ap behind ((bytes_eq-Decides (statement_label i) (statement_label j)).0 is))))
    go false is = is
