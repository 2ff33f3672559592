-- Names of parts in left sides. In `\and{S}(p,X)` and `\and{S}(X,p)`, where p is no variable, the
-- element variable X names what p matches. It stands nowhere else in the left side.
use Rattle.std.specs.Prelude.{◌+◌, ℕ, Bool, false, not, ◌||◌, ◌&&◌, List, [], ◌∷◌, Option, Some}
use Rattle.std.specs.Prelude.{None, nat_le, if◌then◌else◌}
use Rattle.kore_text.specs.Trees.{SortTree, listed_sorts, PatternTree, element_variable}
use Rattle.kore_text.specs.Trees.{symbol_applied, connected, binder_applied, folded, PatternTrees}
use Rattle.kore_text.specs.Trees.{no_patterns, pattern_then, listed_patterns}
use Rattle.kore_text.specs.declared.names.Op.{Op}
use Rattle.kore_check.specs.Folds.{Unfoldeds, no_more, and_more, all_unfolded}
use Rattle.kore_check.specs.Variables.{variable_of}
use Rattle.kore_shapes.specs.Forms.{is_and, is_one}
use Rattle.kore_shapes.specs.SameSorts.{is_variable}

-- how many times the element variable of this name and sort is written in the pattern, or
-- (`times_in_all`) in the patterns
abbrev mutual
  pub times : List ℕ → SortTree → PatternTree → ℕ
  times name s (element_variable at n t) =
      if is_variable name s (element_variable at n t) then 1 else 0
  times name s (symbol_applied at n ss ps) = times_in_all name s ps
  times name s (connected at op ss ps) = times_in_all name s ps
  times name s (binder_applied at b ss x p) = times name s x + times name s p
  times name s (folded at left p) = times name s p
  times name s p = 0

  pub times_in_all : List ℕ → SortTree → PatternTrees → ℕ
  times_in_all name s no_patterns = 0
  times_in_all name s (pattern_then p ps) = times name s p + times_in_all name s ps

-- the same for a list of patterns
abbrev pub times_in : List ℕ → SortTree → List PatternTree → ℕ
times_in name s [] = 0
times_in name s (p ∷ ps) = times name s p + times_in name s ps

-- exactly one of two patterns is a variable: this one
abbrev pub only_variable : Option (List ℕ × SortTree) → Option (List ℕ × SortTree)
    → Option (List ℕ × SortTree)
only_variable (Some v) None = Some v
only_variable None (Some v) = Some v
only_variable _ _ = None

-- the name that an `\and` of these sorts and patterns gives, if it has one sort and two patterns of
-- which exactly one is a variable
abbrev pub given_name : List SortTree → Unfoldeds → Option (List ℕ × SortTree)
given_name (s ∷ []) (and_more p (and_more q no_more)) = only_variable (variable_of p) (variable_of q)
given_name ss ps = None

-- there is a name, and it is written once in these patterns
abbrev pub is_written_once : List PatternTree → Option (List ℕ × SortTree) → Bool
is_written_once whole None = false
is_written_once whole (Some v) = nat_le (times_in v.0 v.1 whole) 1

-- the connective is an `\and` that gives no name, or a name that stands elsewhere in these patterns
abbrev pub is_bad_and : List PatternTree → Op → List SortTree → Unfoldeds → Bool
is_bad_and whole op ss ps = is_and op && not (is_written_once whole (given_name ss ps))

-- Such an `\and` occurs in the pattern, or (`have_bad_and`) in one of the patterns. Folds are read.
-- `whole` are the patterns of the left side.
abbrev mutual
  pub has_bad_and : List PatternTree → PatternTree → Bool
  has_bad_and whole (symbol_applied at n ss ps) = have_bad_and whole ps
  has_bad_and whole (connected at op ss ps) =
      is_bad_and whole op (listed_sorts ss) (all_unfolded ps) || have_bad_and whole ps
  has_bad_and whole (binder_applied at b ss x p) = has_bad_and whole p
  has_bad_and whole (folded at left p) = fold_has_bad_and whole p
  has_bad_and whole p = false

  pub have_bad_and : List PatternTree → PatternTrees → Bool
  have_bad_and whole no_patterns = false
  have_bad_and whole (pattern_then p ps) = has_bad_and whole p || have_bad_and whole ps

  -- the same for the fold of this pattern
  pub fold_has_bad_and : List PatternTree → PatternTree → Bool
  fold_has_bad_and whole (symbol_applied at n ss ps) = have_bad_and whole ps
  fold_has_bad_and whole (connected at op ss ps) =
      (not (is_one (listed_patterns ps)) && is_bad_and whole op (listed_sorts ss) (all_unfolded ps))
      || have_bad_and whole ps
  fold_has_bad_and whole p = false

-- the left side has a bad `\and`
abbrev pub is_badly_named : PatternTree → Bool
is_badly_named p = has_bad_and (p ∷ []) p
