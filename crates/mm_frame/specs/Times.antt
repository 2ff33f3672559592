-- How often a symbol occurs in lists of symbols.
use Rattle.std.specs.Prelude.{ℕ, ◌+◌, nat_eq, if◌then◌else◌, List, [], ◌∷◌}
use Rattle.mm_frame.specs.Numbered.{NumberedHypothesis}
use Rattle.mm_database.specs.Frames.{floating, essential}

abbrev pub once : ℕ → ℕ → ℕ
once n m = if nat_eq m n then 1 else 0

abbrev pub times : ℕ → List ℕ → ℕ
times n [] = 0
times n (m ∷ ms) = once n m + times n ms

-- in all `$e`
abbrev pub times_in : ℕ → List NumberedHypothesis → ℕ
times_in n [] = 0
times_in n (floating label typecode variable ∷ hs) = times_in n hs
times_in n (essential label statement ∷ hs) = times n statement + times_in n hs
