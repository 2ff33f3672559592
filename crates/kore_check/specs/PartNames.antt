-- The names of parts that a Kore pattern gives, with their places in the rule pattern that it means.
use Rattle.std.specs.Prelude.{◌+◌, ◌++◌, ℕ, true, false, List, [], ◌∷◌, Option, Some, None}
use Rattle.std.specs.Option.{option_and_then}
use Rattle.rule_core.specs.NamedParts.{Name}
use Rattle.rule_core.specs.declared.signature.Signature.{Signature}
use Rattle.kore_sig.specs.SortReferences.{sort_number}
use Rattle.kore_check.specs.Folds.{Unfolded, Unfoldeds, named_variable, applied_symbol, both_of}
use Rattle.kore_check.specs.Folds.{no_more, and_more}
use Rattle.kore_check.specs.PatternMeanings.{variable_number}

-- the number of a variable, if the pattern is one
abbrev pub number_of_variable : Signature → List (List ℕ × ℕ) → Unfolded → Option ℕ
number_of_variable sig vars (named_variable at name s) =
    option_and_then (variable_number vars name) (sort_number sig.sorts s)
number_of_variable sig vars p = None

-- the name that an `\and` gives the part at this place, if the first or the second of its patterns
-- is the variable with the number
abbrev pub name_at : List ℕ → Option ℕ → Option ℕ → List Name
name_at place None None = []
name_at place None (Some x) = record { variable = x; place = place; first = false } ∷ []
name_at place (Some x) other = record { variable = x; place = place; first = true } ∷ []

-- The names of parts in a pattern at this place, in order. Of names of one part, the inner comes
-- first. Argument number i of an application is at the place of the application and then i.
abbrev mutual
  pub names_in : Signature → List (List ℕ × ℕ) → List ℕ → Unfolded → List Name
  names_in sig vars place (applied_symbol at byte name ss ps) = names_in_all sig vars place 0 ps
  names_in sig vars place (both_of at s p q) =
      names_in sig vars place p
      ++ (names_in sig vars place q
      ++ name_at place (number_of_variable sig vars p) (number_of_variable sig vars q))
  names_in sig vars place p = []

  -- the same for the arguments of an application from this number on
  pub names_in_all : Signature → List (List ℕ × ℕ) → List ℕ → ℕ → Unfoldeds → List Name
  names_in_all sig vars place i no_more = []
  names_in_all sig vars place i (and_more p ps) =
      names_in sig vars (place ++ i ∷ []) p ++ names_in_all sig vars place (i + 1) ps
