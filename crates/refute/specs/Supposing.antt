-- A fact on a variable under a stronger hypothesis.
use Rattle.std.specs.Prelude.{◌≡◌, [], ◌∷◌, Option, Some, None}
use Rattle.ml_kernel.specs.Theorems.{Theorem}
use Rattle.ml_derived.specs.Implications.{IsChain}
use Rattle.ml_derived.specs.Scopes.{StaysWithin}

-- there is no fact, or the theorem is the chain of the implication and the fact
abbrev pub IsWeakened : Theorem → Option Theorem → Option Theorem → Type 0
IsWeakened weaker None o = o ≡ None
IsWeakened weaker (Some fact) o =
    (t : Theorem) × (o ≡ Some t) × IsChain weaker.conclusion fact.conclusion t.conclusion
    × StaysWithin [] (weaker ∷ fact ∷ []) t
