-- Which forms occur in a pattern after its folds are read. A fold of one argument is that argument,
-- and its head is ignored.
use Rattle.std.specs.Prelude.{List, [], ◌∷◌, Bool, true, false, not, ◌||◌, ◌&&◌}
use Rattle.kore_text.specs.Trees.{PatternTree, element_variable, set_variable, string}
use Rattle.kore_text.specs.Trees.{symbol_applied, connected, binder_applied, value_written, folded}
use Rattle.kore_text.specs.Trees.{PatternTrees, no_patterns, pattern_then, listed_patterns}
use Rattle.kore_text.specs.declared.names.Op.{Op}
use Rattle.kore_text.specs.declared.names.Op.TheVariants.{And}

abbrev pub is_and : Op → Bool
is_and And = true
is_and op = false

-- Which forms are sought: all forms other than `\and`, a variable, an application, a domain value, a
-- fold and a binder; or these and `\and`. Strings, and folds of something that cannot be folded, are
-- always sought.
pub data Sought : Type 0 where
  others : Sought
  all_forms : Sought

-- the connective is one of the sought forms
abbrev pub covers : Sought → Op → Bool
covers others op = not (is_and op)
covers all_forms op = true

-- there is exactly one pattern
abbrev pub is_one : List PatternTree → Bool
is_one [] = false
is_one (p ∷ []) = true
is_one (p ∷ (q ∷ ps)) = false

-- there is no pattern
abbrev pub is_none : List PatternTree → Bool
is_none [] = true
is_none (p ∷ ps) = false

-- one of the sought forms occurs in the pattern, or (`have_form`) in one of the patterns
abbrev mutual
  pub has_form : Sought → PatternTree → Bool
  has_form sought (string at text) = true
  has_form sought (symbol_applied at n ss ps) = have_form sought ps
  has_form sought (connected at op ss ps) = covers sought op || have_form sought ps
  has_form sought (binder_applied at b ss x p) = has_form sought p
  has_form sought (folded at left p) = fold_has_form sought p
  has_form sought p = false

  pub have_form : Sought → PatternTrees → Bool
  have_form sought no_patterns = false
  have_form sought (pattern_then p ps) = has_form sought p || have_form sought ps

  -- one of the sought forms occurs in the fold of this pattern; a fold can be of an application, or
  -- of a connective, with an argument
  pub fold_has_form : Sought → PatternTree → Bool
  fold_has_form sought (element_variable at n s) = true
  fold_has_form sought (set_variable at n s) = true
  fold_has_form sought (string at text) = true
  fold_has_form sought (symbol_applied at n ss ps) =
      is_none (listed_patterns ps) || have_form sought ps
  fold_has_form sought (connected at op ss ps) =
      (not (is_one (listed_patterns ps)) && covers sought op)
      || have_form sought ps
  fold_has_form sought (binder_applied at b ss x p) = true
  fold_has_form sought (value_written at s text place) = true
  fold_has_form sought (folded at left p) = true

-- a quantifier, `\mu`, `\nu` or a set variable occurs in the pattern, or (`have_binder`) in one of
-- the patterns
abbrev mutual
  pub has_binder : PatternTree → Bool
  has_binder (set_variable at n s) = true
  has_binder (symbol_applied at n ss ps) = have_binder ps
  has_binder (connected at op ss ps) = have_binder ps
  has_binder (binder_applied at b ss x p) = true
  has_binder (folded at left p) = has_binder p
  has_binder p = false

  pub have_binder : PatternTrees → Bool
  have_binder no_patterns = false
  have_binder (pattern_then p ps) = has_binder p || have_binder ps
