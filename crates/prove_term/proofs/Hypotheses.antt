-- Hypotheses that differ by their pattern variables, each kept once.
use Rattle.std.proofs.Common.{◌≡◌, ◌<◌, ◌≤◌, ℕ, zero, suc, List, [], ◌∷◌, ◌++◌, sym, ◌∙◌, subst}
use Rattle.std.proofs.Common.{arith, append_assoc, append-nil, inl, inr}
use Rattle.std.specs.Prelude.{Contains, ◌⊎◌}
use Rattle.std.proofs.lemmas.List.Elements.{Contains-append_cases}
use Rattle.ml_pat.specs.Patterns.{Pattern, fun, meta}
use Rattle.ml_kernel.specs.Theorems.{AddsNew}
use Rattle.prove_term.specs.Falling.{Falls}

-- each pattern is about a pattern variable with a number of at least b
abbrev Above : ℕ → List Pattern → Type 0
Above b ps = (p : Pattern) → Contains ps p → (j : ℕ) × (s : ℕ) × (b ≤ j) × (p ≡ fun (meta j) s)

only_one : (p q : Pattern) → Contains (p ∷ []) q → p ≡ q
only_one p q (zero, low, is) = is
only_one p q (suc k, low, is) = absurd (omega (arith, low))

same_number : (i j s t : ℕ) → fun (meta i) s ≡ fun (meta j) t → i ≡ j
same_number i j s t h = cc

above_more : (b j s : ℕ) (old : List Pattern) → Above b old → j < b
    → Above j (old ++ fun (meta j) s ∷ [])
above_more b j s old above low p there =
    go (Contains-append_cases old (fun (meta j) s ∷ []) p there)
  where
    go : Contains old p ⊎ Contains (fun (meta j) s ∷ []) p
        → (i : ℕ) × (t : ℕ) × (j ≤ i) × (p ≡ fun (meta i) t)
    go (inl before) =
        let w : (i : ℕ) × (t : ℕ) × (b ≤ i) × (p ≡ fun (meta i) t) = above p before in
        (w.0, w.1, omega (arith, w.2, low), w.3)
    go (inr last) = (j, s, omega arith, sym (only_one (fun (meta j) s) p last))

adds_all : (ps old new : List Pattern) (b : ℕ) → Above b old → Falls b ps → AddsNew old ps new
    → new ≡ old ++ ps
adds_all [] old new b above falls adds = adds ∙ sym (append-nil old)
adds_all (p ∷ ps) old new b above (j, s, low, is, falls) (inl (there, adds)) =
    let w : (i : ℕ) × (t : ℕ) × (b ≤ i) × (p ≡ fun (meta i) t) = above p there in
    let same : j ≡ w.0 = same_number j w.0 s w.1 (sym is ∙ w.3) in
    absurd (omega (arith, same, low, w.2))
adds_all (p ∷ ps) old new b above (j, s, low, is, falls) (inr (fresh, adds)) =
    let more : Above j (old ++ p ∷ []) =
    subst (λ (q : Pattern). Above j (old ++ q ∷ [])) (sym is)
    (above_more b j s old above low) in
    adds_all ps (old ++ p ∷ []) new j more falls adds ∙ append_assoc old (p ∷ []) ps

-- hypotheses in falling order are kept as they are
pub kept_as_they_are : (ps new : List Pattern) (b : ℕ) → Falls b ps → AddsNew [] ps new → new ≡ ps
kept_as_they_are ps new b falls adds =
    adds_all ps [] new b (λ p there. absurd (omega (arith, there.1))) falls adds
