-- The part of a pattern along which patterns are deep: its spine goes on there.
use Rattle.std.specs.Prelude.{Option, Some, None}
use Rattle.ml_pat.specs.Patterns.{Pattern, nullary, unary, binary, sorted, quantified, or, var, meta}
use Rattle.ml_pat.specs.Patterns.{constant}

-- the second part of a disjunction, and the first part of the other forms, if there is one
abbrev pub spine_part : Pattern → Option Pattern
spine_part (nullary c) = None
spine_part (or p q) = Some q
spine_part (binary c p q) = Some p
spine_part (unary c p) = Some p
spine_part (sorted c p s) = Some p
spine_part (quantified c x s p) = Some p
spine_part (var x) = None
spine_part (meta i) = None
spine_part (constant c) = None
