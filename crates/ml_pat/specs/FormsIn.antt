-- The number of forms in a pattern.
use Rattle.std.specs.Prelude.{ℕ, ◌+◌}
use Rattle.ml_pat.specs.Patterns.{Pattern, nullary, unary, binary, sorted, quantified, var, meta}
use Rattle.ml_pat.specs.Patterns.{constant}

abbrev pub forms_in : Pattern → ℕ
forms_in (nullary c) = 1
forms_in (binary c p q) = forms_in p + forms_in q + 1
forms_in (unary c p) = forms_in p + 1
forms_in (sorted c p s) = forms_in p + 1
forms_in (quantified c x s p) = forms_in p + 1
forms_in (var x) = 1
forms_in (meta i) = 1
forms_in (constant c) = 1
