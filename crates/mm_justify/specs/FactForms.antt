-- The patterns that are counted as facts, by their forms.
use Rattle.std.specs.Prelude.{Bool, true, false, ◌&&◌, ◌||◌}
use Rattle.ml_pat.specs.Patterns.{Pattern, not, imp, equal, fun, all, var}

abbrev pub is_variable : Pattern → Bool
is_variable (var x) = true
is_variable p = false

abbrev pub is_equality : Pattern → Bool
is_equality (equal p q) = true
is_equality p = false

abbrev pub equates_variables : Pattern → Bool
equates_variables (equal p q) = is_variable p && is_variable q
equates_variables p = false

-- for all variables, two patterns are not equal, or an equality implies one of variables
abbrev pub is_apart_form : Pattern → Bool
is_apart_form (all x s p) = is_apart_form p
is_apart_form (not p) = is_equality p
is_apart_form (imp p q) = is_equality p && equates_variables q
is_apart_form p = false

-- a pattern is an element of a sort, or two patterns are equal
abbrev pub is_plain_form : Pattern → Bool
is_plain_form (equal p q) = true
is_plain_form (fun p s) = true
is_plain_form p = false

abbrev pub is_fact_form : Pattern → Bool
is_fact_form p = is_plain_form p || is_apart_form p
