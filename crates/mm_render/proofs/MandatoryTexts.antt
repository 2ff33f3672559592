-- The mandatory labels of a claim, as a writer makes them.
use Rattle.std.proofs.Common.{◌≡◌, ℕ, ◌+◌, List, [], ◌∷◌, ◌++◌, length, map, refl, ap, ◌∙◌, sym}
use Rattle.std.proofs.Common.{append_assoc, arith}
use Rattle.std.proofs.lemmas.List.{map-append}
use Rattle.mm_text.specs.Bytes.{Token}
use Rattle.ml_pat.specs.Patterns.{Pattern}
use Rattle.mm_proof.specs.Labels.{premise_label}
use Rattle.mm_proof.specs.Writing.{label_token}
use Rattle.mm_proof.specs.declared.words.Label.{Label}
use Rattle.mm_claims.specs.PremiseLabels.{premise_labels}
use Rattle.mm_claims.specs.Variables.{Variable}
use Rattle.mm_render.specs.MandatoryLabels.{AddsLabelsOf}

-- one more label
pub label_added : (l : Label) (token : ℕ → Token) (tokens more : ℕ → List Token)
    (start old new : List Label) → AddsLabelsOf tokens start old
    → ((k : ℕ) → label_token k l ≡ token k) → new ≡ old ++ l ∷ []
    → ((k : ℕ) → more k ≡ tokens k ++ token k ∷ []) → AddsLabelsOf more start new
label_added l token tokens more start old new before same is all k =
    ap (map (label_token k)) is ∙ map-append (label_token k) old (l ∷ [])
    ∙ ap (λ (ts : List Token). ts ++ label_token k l ∷ []) (before k)
    ∙ append_assoc (map (label_token k) start) (tokens k) (label_token k l ∷ [])
    ∙ ap (λ (t : Token). map (label_token k) start ++ (tokens k ++ t ∷ [])) (same k)
    ∙ ap (λ (ts : List Token). map (label_token k) start ++ ts) (sym (all k))

pub premise_labels-push : (k j : ℕ) (ps : List Pattern) (p : Pattern)
    → premise_labels k j (ps ++ p ∷ [])
    ≡ premise_labels k j ps ++ premise_label k (j + length ps) ∷ []
premise_labels-push k j [] p =
    let e : j ≡ j + 0 = omega arith in
    ap (λ (i : ℕ). premise_label k i ∷ []) e
premise_labels-push k j (q ∷ ps) p =
    let e : (j + 1) + length ps ≡ j + length (q ∷ ps) = omega arith in
    ap (λ (ts : List Token). premise_label k j ∷ ts)
    (premise_labels-push k (j + 1) ps p
    ∙ ap (λ (i : ℕ). premise_labels k (j + 1) ps ++ premise_label k i ∷ []) e)
