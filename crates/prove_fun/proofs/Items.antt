-- Items of lists.
use Rattle.std.proofs.Common.{◌≡◌, ◌<◌, ℕ, zero, suc, List, [], ◌∷◌, Some, length, get_or, sym, ap}
use Rattle.std.proofs.Common.{map, slice_get, take, arith}

pub item_there : {A : Type 0} (xs : List A) (i : ℕ) (x : A) → i < length xs → x ≡ get_or xs i x
    → slice_get xs i ≡ Some x
item_there [] i x low at = absurd (omega (arith, low))
item_there (y ∷ xs) zero x low at = ap (λ z. Some z) (sym at)
item_there (y ∷ xs) (suc i) x low at = item_there xs i x (omega (arith, low)) at

-- an item of the first items of a list is an item of the list, and comes before their number
pub item_taken : {A : Type 0} (n : ℕ) (xs : List A) (i : ℕ) (x : A)
    → slice_get (take n xs) i ≡ Some x → (slice_get xs i ≡ Some x) × (i < n)
item_taken zero [] i x there = absurd (let no : ⊥ = cc in no)
item_taken zero (y ∷ xs) i x there = absurd (let no : ⊥ = cc in no)
item_taken (suc n) [] i x there = absurd (let no : ⊥ = cc in no)
item_taken (suc n) (y ∷ xs) zero x there = (there, omega arith)
item_taken (suc n) (y ∷ xs) (suc i) x there =
    let rest = item_taken n xs i x there in (rest.0, omega (arith, rest.1))

pub item_mapped : {A B : Type 0} (f : A → B) (xs : List A) (i : ℕ) (x : A) → slice_get xs i ≡ Some x
    → slice_get (map f xs) i ≡ Some (f x)
item_mapped f [] i x there = absurd (let no : ⊥ = cc in no)
item_mapped f (y ∷ xs) zero x there = ap (λ z. Some (f z)) (first y x there)
  where
    first : {A : Type 0} (y x : A) → Some y ≡ Some x → y ≡ x
    first y x e = cc
item_mapped f (y ∷ xs) (suc i) x there = item_mapped f xs i x there
