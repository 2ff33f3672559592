-- The sort of an initial term.
use Rattle.std.specs.Prelude.{◌≡◌, ◌==◌, not, ℕ, Bool, false, [], Option, Some, None}
use Rattle.term_core.specs.Patterns.{Pattern}
use Rattle.rule_core.specs.Sorting.{HasSort}
use Rattle.rule_core.specs.declared.signature.Signature.{Signature}

-- the rules have a sort, and it is not this one
abbrev pub differs_from : Option ℕ → ℕ → Bool
differs_from None sort = false
differs_from (Some top) sort = not (top == sort)

-- the pattern has no variable, and has a sort; it is the sort of the rules if there are rules
abbrev pub HasStartSort : Signature → Option ℕ → Pattern → Type 0
HasStartSort sig top p = (sort : ℕ) × HasSort sig [] p sort × (differs_from top sort ≡ false)
