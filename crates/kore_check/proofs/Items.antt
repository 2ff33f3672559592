-- One turn of a loop over a list.
use Rattle.std.proofs.Common.{◌≡◌, ◌<◌, ℕ, zero, suc, ◌+◌, List, [], ◌∷◌, length, drop, get_or}
use Rattle.std.proofs.Common.{refl, ap, sym, ◌∙◌, add-one, drop-cons}

pub drop-item : {X : Type 0} (xs : List X) (i : ℕ) (x : X) → i < length xs → x ≡ get_or xs i x
    → drop i xs ≡ x ∷ drop (i + 1) xs
drop-item xs i x lt is = rw (add-one, drop-cons xs i x) (ap (λ y. y ∷ drop (suc i) xs) (sym is))

pub drop-drop : {X : Type 0} (xs : List X) (i : ℕ) → drop 1 (drop i xs) ≡ drop (i + 1) xs
drop-drop [] zero = refl
drop-drop [] (suc i) = rw add-one refl
drop-drop (x ∷ xs) zero = refl
drop-drop (x ∷ xs) (suc i) = rw add-one (drop-drop xs i ∙ rw add-one refl)
