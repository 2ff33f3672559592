-- A list in pieces, by the places where they end.
use Rattle.std.specs.Prelude.{◌≡◌, ℕ, zero, suc, ◌-◌, ◌≤◌, List, [], ◌∷◌, take, drop}
use Rattle.std.specs.Prelude.{slice_index_or}

-- the pieces, the first of which begins at a place
abbrev pub cut : List ℕ → ℕ → List ℕ → List (List ℕ)
cut symbols from [] = []
cut symbols from (to ∷ ends) = take (to - from) (drop from symbols) ∷ cut symbols to ends

-- the places do not decrease, and the last one is the length of the list
abbrev pub AreEnds : ℕ → ℕ → List ℕ → Type 0
AreEnds whole from [] = from ≡ whole
AreEnds whole from (to ∷ ends) = (from ≤ to) × AreEnds whole to ends

-- where the piece with this number begins
abbrev pub start_of : ℕ → List ℕ → ℕ → ℕ
start_of from ends zero = from
start_of from ends (suc i) = slice_index_or ends i from
