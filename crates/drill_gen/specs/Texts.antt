-- The values of borrowed strings.
use Rattle.std.specs.Prelude.{ℕ, List, map}
use Rattle.std.specs.Borrow.{Bor}

-- their bytes
abbrev pub texts : List (Bor (List ℕ)) → List (List ℕ)
texts = map (λ (s : Bor (List ℕ)). s.now)
