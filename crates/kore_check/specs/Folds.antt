-- Patterns with their folds expanded (K framework, Kore language). `\left-assoc{}(f{}(a,b,c))` is
-- `f{}(f{}(a,b),c)`, and `\right-assoc{}(f{}(a,b,c))` is `f{}(a,f{}(b,c))`. A fold of one argument
-- is that argument, and a fold of an `\and` of two patterns is that `\and`.
use Rattle.std.specs.Prelude.{◌+◌, ℕ, Bool, true, false, List, [], ◌∷◌, max}
use Rattle.kore_text.specs.Trees.{SortTree, PatternTree, element_variable, set_variable, string}
use Rattle.kore_text.specs.Trees.{symbol_applied, connected, binder_applied, value_written, folded}
use Rattle.kore_text.specs.Trees.{PatternTrees, no_patterns, pattern_then, listed_sorts}
use Rattle.kore_text.specs.declared.names.Op.{Op}
use Rattle.kore_text.specs.declared.names.Op.TheVariants.{And}

mutual
  -- A pattern of variables, domain values, applications and `\and`s of two patterns. The first
  -- number is its byte.
  pub data Unfolded : Type 0 where
    -- a variable's name and sort
    named_variable : ℕ → List ℕ → SortTree → Unfolded
    -- a domain value's sort, its text and the byte of its string
    written_value : ℕ → SortTree → List ℕ → ℕ → Unfolded
    -- the byte of a symbol's name, the name, its sort arguments and its arguments
    applied_symbol : ℕ → ℕ → List ℕ → List SortTree → Unfoldeds → Unfolded
    -- the sort of an `\and` and its two patterns
    both_of : ℕ → SortTree → Unfolded → Unfolded → Unfolded
    -- a pattern of another form
    other_form : ℕ → Unfolded

  pub data Unfoldeds : Type 0 where
    no_more : Unfoldeds
    and_more : Unfolded → Unfoldeds → Unfoldeds

-- the byte of a pattern
abbrev pub unfolded_byte : Unfolded → ℕ
unfolded_byte (named_variable at name s) = at
unfolded_byte (written_value at s text byte) = at
unfolded_byte (applied_symbol at byte name ss ps) = at
unfolded_byte (both_of at s p q) = at
unfolded_byte (other_form at) = at

-- the pattern, with this byte
abbrev pub standing_at : ℕ → Unfolded → Unfolded
standing_at there (named_variable at name s) = named_variable there name s
standing_at there (written_value at s text byte) = written_value there s text byte
standing_at there (applied_symbol at byte name ss ps) = applied_symbol there byte name ss ps
standing_at there (both_of at s p q) = both_of there s p q
standing_at there (other_form at) = other_form there

-- a symbol applied to two patterns when a fold is expanded; its byte is that of the symbol's name
abbrev pub applied_to_two : ℕ → List ℕ → List SortTree → Unfolded → Unfolded → Unfolded
applied_to_two byte name ss p q = applied_symbol byte byte name ss (and_more p (and_more q no_more))

-- f applied to the first pattern and the next, f applied to that and the one after it, and so on
abbrev pub folded_left : ℕ → List ℕ → List SortTree → Unfolded → Unfoldeds → Unfolded
folded_left byte name ss p no_more = p
folded_left byte name ss p (and_more q qs) =
    folded_left byte name ss (applied_to_two byte name ss p q) qs

-- f applied to the first pattern and to the fold of the others from the right
abbrev pub folded_right : ℕ → List ℕ → List SortTree → Unfolded → Unfoldeds → Unfolded
folded_right byte name ss p no_more = p
folded_right byte name ss p (and_more q qs) =
    applied_to_two byte name ss p (folded_right byte name ss q qs)

-- the fold of a symbol over patterns, from the left or from the right
abbrev pub fold_of : Bool → ℕ → List ℕ → List SortTree → Unfoldeds → Unfolded
fold_of left byte name ss no_more = other_form byte
fold_of true byte name ss (and_more p ps) = folded_left byte name ss p ps
fold_of false byte name ss (and_more p ps) = folded_right byte name ss p ps

-- the only pattern of a list; another form if there is not exactly one
abbrev pub only_of : ℕ → Unfoldeds → Unfolded
only_of at (and_more p no_more) = p
only_of at ps = other_form at

-- a connective of these sorts and patterns; another form if it is no `\and` of two patterns
abbrev pub connective_of : ℕ → Op → List SortTree → Unfoldeds → Unfolded
connective_of at And (s ∷ []) (and_more p (and_more q no_more)) = both_of at s p q
connective_of at op ss ps = other_form at

-- the fold of a connective
abbrev pub connective_fold : ℕ → Op → List SortTree → Unfoldeds → Unfolded
connective_fold at op ss (and_more p no_more) = p
connective_fold at op ss ps = connective_of at op ss ps

-- a pattern with its folds expanded; the byte of a fold is its own first byte
abbrev mutual
  pub unfolded : PatternTree → Unfolded
  unfolded (element_variable at name s) = named_variable at name s
  unfolded (set_variable at name s) = other_form at
  unfolded (string at text) = other_form at
  unfolded (symbol_applied at name ss ps) =
      applied_symbol at at name (listed_sorts ss) (all_unfolded ps)
  unfolded (connected at op ss ps) = connective_of at op (listed_sorts ss) (all_unfolded ps)
  unfolded (binder_applied at binder ss x p) = other_form at
  unfolded (value_written at s text byte) = written_value at s text byte
  unfolded (folded at left p) = standing_at at (inner_fold left p)

  -- the expansion of a fold of this pattern
  pub inner_fold : Bool → PatternTree → Unfolded
  inner_fold left (element_variable at name s) = other_form at
  inner_fold left (set_variable at name s) = other_form at
  inner_fold left (string at text) = other_form at
  inner_fold left (symbol_applied at name ss ps) =
      fold_of left at name (listed_sorts ss) (all_unfolded ps)
  inner_fold left (connected at op ss ps) =
      connective_fold at op (listed_sorts ss) (all_unfolded ps)
  inner_fold left (binder_applied at binder ss x p) = other_form at
  inner_fold left (value_written at s text byte) = other_form at
  inner_fold left (folded at other p) = other_form at

  pub all_unfolded : PatternTrees → Unfoldeds
  all_unfolded no_patterns = no_more
  all_unfolded (pattern_then p ps) = and_more (unfolded p) (all_unfolded ps)

-- the number of patterns
abbrev pub count : Unfoldeds → ℕ
count no_more = 0
count (and_more p ps) = count ps + 1

-- the height; a variable, a value and a symbol without arguments have the height 1; an `\and` has
-- that of the higher of its patterns
abbrev mutual
  pub unfolded_height : Unfolded → ℕ
  unfolded_height (applied_symbol at byte name ss ps) = unfolded_heights ps + 1
  unfolded_height (both_of at s p q) = max (unfolded_height p) (unfolded_height q)
  unfolded_height p = 1

  -- the greatest of these heights, 0 if there are none
  pub unfolded_heights : Unfoldeds → ℕ
  unfolded_heights no_more = 0
  unfolded_heights (and_more p ps) = max (unfolded_height p) (unfolded_heights ps)
