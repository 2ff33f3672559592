-- A pattern along its spine, where patterns are deep, and a pattern with other parts.
use Rattle.std.specs.Prelude.{◌≡◌, List, [], ◌∷◌, Some}
use Rattle.std.specs.Borrow.{Bor}
use Rattle.ml_pat.specs.Patterns.{Pattern, unary, binary, sorted, quantified}
use Rattle.ml_pat.specs.SpinePart.{spine_part}

-- the path from a pattern down its spine, from the top on, and where it ends
abbrev pub LeadsTo : Pattern → List (Bor Pattern) → Pattern → Type 0
LeadsTo p [] q = p ≡ q
LeadsTo p (r ∷ rs) q = (p ≡ r.now) × ((s : Pattern) × ((spine_part p ≡ Some s) × LeadsTo s rs q))

-- the pattern with its first part, if it has one, replaced by r, and its second part, if it has
-- one, replaced by t
abbrev pub with_parts : Pattern → Pattern → Pattern → Pattern
with_parts (binary c p q) r t = binary c r t
with_parts (unary c p) r t = unary c r
with_parts (sorted c p s) r t = sorted c r s
with_parts (quantified c x s p) r t = quantified c x s r
with_parts p r t = p
