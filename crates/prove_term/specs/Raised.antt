-- Patterns whose variables are all bound in front, and the same with greater numbers of the
-- variables.
use Rattle.std.specs.Prelude.{◌≡◌, ◌+◌, ◌<◌, ℕ, zero, suc, true, List, [], ◌∷◌}
use Rattle.ml_pat.specs.Patterns.{Pattern, quantified}
use Rattle.ml_pat.specs.Judgements.{fresh}
use Rattle.ml_pat.specs.Leaves.{LeafFacts, EachLeaf}
use Rattle.ml_kernel.specs.Renamings.{renamed}

-- how many quantifiers are in front of the pattern
abbrev pub in_front : Pattern → ℕ
in_front (quantified c x s p) = suc (in_front p)
in_front p = zero

-- each variable has a number below n
abbrev pub variables_below : ℕ → LeafFacts
variables_below n = record {
  sort = λ s. Unit {0};
  constant = λ c. Unit {0};
  object = λ x. x < n;
  meta = λ i. Unit {0};
}

-- no variable is free, and all have numbers below the number of quantifiers in front
pub record IsBoundInFront (p : Pattern) : Type 0 where
  pub numbers : EachLeaf (variables_below (in_front p)) p
  pub closed : (x : ℕ) → fresh x p ≡ true

-- the pattern with k added to the number of each variable
abbrev pub raised : ℕ → Pattern → Pattern
raised k p = renamed (λ x. k + x) p

-- n numbers from k on
abbrev pub numbers_from : ℕ → ℕ → List ℕ
numbers_from k zero = []
numbers_from k (suc n) = k ∷ numbers_from (k + 1) n
