-- The variables of a guard, the last one first.
use Rattle.std.specs.Prelude.{ℕ, ◌+◌, zero, suc, List, [], ◌∷◌}

-- this many variables, numbered from k, the last one first
abbrev pub down_from : ℕ → ℕ → List ℕ
down_from k zero = []
down_from k (suc n) = (k + n) ∷ down_from k n
