-- Which symbols and variables a pattern uses, after its folds are read.
use Rattle.std.specs.Prelude.{ℕ, List, Bool, true, false, not, ◌||◌, ◌&&◌, Option, Some, None}
use Rattle.std.specs.Str.{bytes_eq}
use Rattle.kore_text.specs.Trees.{SortTree}
use Rattle.rule_core.specs.declared.signature.Signature.{Signature}
use Rattle.rule_core.specs.declared.signature.SymInfo.{SymInfo}
use Rattle.rule_core.specs.KindTests.{is_function_kind}
use Rattle.kore_check.specs.Folds.{Unfolded, named_variable, applied_symbol, both_of, Unfoldeds}
use Rattle.kore_check.specs.Folds.{no_more, and_more}
use Rattle.kore_check.specs.PatternSorts.{symbol_named}
use Rattle.kore_shapes.specs.SameSorts.{same_sort}

-- a symbol that passes the test occurs in the pattern
abbrev mutual
  pub has_symbol : (List ℕ → Bool) → Unfolded → Bool
  has_symbol test (applied_symbol at byte name ss ps) = test name || have_symbol test ps
  has_symbol test (both_of at s p q) = has_symbol test p || has_symbol test q
  has_symbol test p = false

  pub have_symbol : (List ℕ → Bool) → Unfoldeds → Bool
  have_symbol test no_more = false
  have_symbol test (and_more p ps) = has_symbol test p || have_symbol test ps

-- a variable of this name and sort occurs in the pattern, or (`occurs_in_some`) in one of the
-- patterns
abbrev mutual
  pub occurs_in_pattern : List ℕ → SortTree → Unfolded → Bool
  occurs_in_pattern name s (named_variable at n t) = bytes_eq name n && same_sort s t
  occurs_in_pattern name s (applied_symbol at byte f ss ps) = occurs_in_some name s ps
  occurs_in_pattern name s (both_of at t p q) =
      occurs_in_pattern name s p || occurs_in_pattern name s q
  occurs_in_pattern name s p = false

  pub occurs_in_some : List ℕ → SortTree → Unfoldeds → Bool
  occurs_in_some name s no_more = false
  occurs_in_some name s (and_more p ps) = occurs_in_pattern name s p || occurs_in_some name s ps

-- each variable of the pattern, or (`are_bound_by`) of the patterns, occurs in one of the patterns
-- `qs`
abbrev mutual
  pub is_bound_by : Unfoldeds → Unfolded → Bool
  is_bound_by qs (named_variable at name s) = occurs_in_some name s qs
  is_bound_by qs (applied_symbol at byte name ss ps) = are_bound_by qs ps
  is_bound_by qs (both_of at s p q) = is_bound_by qs p && is_bound_by qs q
  is_bound_by qs p = true

  pub are_bound_by : Unfoldeds → Unfoldeds → Bool
  are_bound_by qs no_more = true
  are_bound_by qs (and_more p ps) = is_bound_by qs p && are_bound_by qs ps

-- a function that is not AC
abbrev pub is_plain_function_with : Option SymInfo → Bool
is_plain_function_with None = false
is_plain_function_with (Some info) = is_function_kind info.kind && not info.ac

abbrev pub is_plain_function : Signature → List ℕ → Bool
is_plain_function sig name = is_plain_function_with (symbol_named sig name)

-- a symbol that is AC: associative, commutative or idempotent, or with a unit
abbrev pub is_ac_with : Option SymInfo → Bool
is_ac_with None = false
is_ac_with (Some info) = info.ac

abbrev pub is_ac_symbol : Signature → List ℕ → Bool
is_ac_symbol sig name = is_ac_with (symbol_named sig name)
