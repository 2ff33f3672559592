-- Patterns under universal quantifiers.
use Rattle.std.specs.Prelude.{◌≡◌, ℕ, ◌+◌, List, [], ◌∷◌, Some}
use Rattle.ml_pat.specs.Patterns.{Pattern, all, nullary, unary, binary, sorted, quantified, var}
use Rattle.ml_pat.specs.Patterns.{meta, constant, Ex, All}
use Rattle.rule_core.specs.declared.signature.Signature.{Signature}
use Rattle.ml_image.specs.Images.{sort_image}

-- the pattern without the universal quantifiers in front of it
abbrev pub unquantified : Pattern → Pattern
unquantified (quantified All x s p) = unquantified p
unquantified (quantified Ex x s p) = quantified Ex x s p
unquantified (nullary c) = nullary c
unquantified (unary c p) = unary c p
unquantified (binary c p q) = binary c p q
unquantified (sorted c p s) = sorted c p s
unquantified (var x) = var x
unquantified (meta i) = meta i
unquantified (constant c) = constant c

-- the pattern p states q of each x:k of this sort
abbrev pub IsUnder : Signature → List (List ℕ) → ℕ → ℕ → Pattern → Pattern → Type 0
IsUnder sig names k s p q = (n : ℕ) × (sort_image sig names s ≡ Some n) × (p ≡ all k n q)

-- the pattern p states q of all variables of these sorts, numbered from k
abbrev pub IsClosed : Signature → List (List ℕ) → ℕ → List ℕ → Pattern → Pattern → Type 0
IsClosed sig names k [] p q = p ≡ q
IsClosed sig names k (s ∷ ss) p q =
    (r : Pattern) × IsUnder sig names k s p r × IsClosed sig names (k + 1) ss r q
