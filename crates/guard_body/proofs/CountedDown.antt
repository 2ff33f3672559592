-- Variables counted down.
use Rattle.std.proofs.Common.{◌≡◌, ◌≢◌, ◌⊎◌, inl, inr, ◌<◌, ◌+◌, ℕ, zero, suc, List, [], ◌∷◌, ◌++◌}
use Rattle.std.proofs.Common.{refl, sym, ◌∙◌, ap, arith}
use Rattle.std.specs.Prelude.{All, Contains}
use Rattle.rule_core.proofs.Bindings.{same_or_other}
use Rattle.guard_body.specs.Hypotheses.{down_from}

-- the variables from the last one down to that of number i
abbrev pub down_to : ℕ → ℕ → ℕ → List ℕ
down_to k zero i = []
down_to k (suc n) i = (k + (n + i)) ∷ down_to k n i

pub down_all : (k n : ℕ) → down_to k n 0 ≡ down_from k n
down_all k zero = refl
down_all k (suc n) =
    let same : k + (n + 0) ≡ k + n = omega arith in
    ap (λ (x : ℕ). x ∷ down_to k n 0) same ∙ ap (λ (xs : List ℕ). (k + n) ∷ xs) (down_all k n)

pub down_more : (k n i : ℕ) → down_to k (n + 1) i ≡ down_to k n (i + 1) ++ (k + i) ∷ []
down_more k zero i =
    let same : k + (0 + i) ≡ k + i = omega arith in ap (λ (x : ℕ). x ∷ []) same
down_more k (suc n) i =
    let same : k + (n + 1 + i) ≡ k + (n + (i + 1)) = omega arith in
    let further : suc n + 1 ≡ suc (n + 1) = omega arith in
    ap (λ (m : ℕ). down_to k m i) further
    ∙ ap (λ (x : ℕ). x ∷ down_to k (n + 1) i) same
    ∙ ap (λ (xs : List ℕ). (k + (n + (i + 1))) ∷ xs) (down_more k n i)

pub down_low : (k n m : ℕ) → ((x : ℕ) → x < n → k + x < m) → All (λ x. x < m) (down_from k n)
down_low k zero m low i d lt = absurd (omega (arith, lt))
down_low k (suc n) m low zero d lt = low n (omega arith)
down_low k (suc n) m low (suc i) d lt =
    down_low k n m (λ x less. low x (omega (arith, less))) i d (omega (arith, lt))

pub down_there : (k n x : ℕ) → x < n → Contains (down_from k n) (k + x)
down_there k zero x low = absurd (omega (arith, low))
down_there k (suc n) x low = there (same_or_other x n) (λ less. down_there k n x less)
  where
    there : (x ≡ n) ⊎ (x ≢ n) → (x < n → Contains (down_from k n) (k + x))
        → Contains (down_from k (suc n)) (k + x)
    there (inl same) below = (0, omega arith, ap (λ (y : ℕ). k + y) (sym same))
    there (inr other) below =
        let w : Contains (down_from k n) (k + x) = below (grind (arith, low, other)) in
        (suc w.0, omega (arith, w.1), w.2)
