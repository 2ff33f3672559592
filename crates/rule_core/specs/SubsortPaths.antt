-- Chains of declared pairs of sorts, with the sorts that they pass.
use Rattle.std.specs.Prelude.{◌≡◌, ℕ, List, [], ◌∷◌, Contains}

-- the sorts of a chain of pairs from the first sort to the second, including both
abbrev pub IsPath : List (ℕ × ℕ) → ℕ → ℕ → List ℕ → Type 0
IsPath pairs a b [] = ⊥
IsPath pairs a b (s ∷ []) = ⊥
IsPath pairs a b (s ∷ (t ∷ [])) = (s ≡ a) × (t ≡ b) × Contains pairs (a, b)
IsPath pairs a b (s ∷ (t ∷ (u ∷ sorts))) =
    (s ≡ a) × Contains pairs (a, t) × IsPath pairs t b (t ∷ (u ∷ sorts))
