-- Lists: the next item, and what is in a list.
use Rattle.std.proofs.Common.{◌≡◌, ℕ, ◌+◌, zero, suc, List, [], ◌∷◌, ◌++◌, take, refl, ap, arith}
use Rattle.std.specs.Prelude.{slice_get, Some, None}

-- the first items with the next one
pub take_next : {X : Type 0} (xs : List X) (i : ℕ) (x : X) → slice_get xs i ≡ Some x
    → take (i + 1) xs ≡ take i xs ++ x ∷ []
take_next [] i x there = let no : ⊥ = cc in absurd no
take_next (y ∷ xs) zero x there = let same : y ≡ x = cc in ap (λ z. z ∷ []) same
take_next (y ∷ xs) (suc i) x there =
    let next : suc i + 1 ≡ suc (i + 1) = omega arith in
    rw next (ap (λ ys. y ∷ ys) (take_next xs i x there))

-- at the end there is no next item
pub take_past : {X : Type 0} (xs : List X) (i : ℕ) → slice_get xs i ≡ None
    → take (i + 1) xs ≡ take i xs
take_past [] zero there = refl
take_past [] (suc i) there =
    let next : suc i + 1 ≡ suc (suc i) = omega arith in rw next refl
take_past (y ∷ xs) zero there = let no : ⊥ = cc in absurd no
take_past (y ∷ xs) (suc i) there =
    let next : suc i + 1 ≡ suc (i + 1) = omega arith in
    rw next (ap (λ ys. y ∷ ys) (take_past xs i there))
