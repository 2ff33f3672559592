-- Positions of subjects: the number of a subject, and after it the numbers of the children on the
-- way down. A row asks a position if it has a pattern there that is not a variable.
use Rattle.std.specs.Prelude.{◌+◌, ℕ, zero, suc, List, [], ◌∷◌, ◌++◌, Option, Some, None, slice_get}
use Rattle.std.specs.Option.{option_and_then}
use Rattle.term_core.specs.Terms.{Tree}
use Rattle.term_core.specs.Forests.{children}
use Rattle.term_core.specs.Patterns.{Pattern, Patterns, variable, domain_value, application}
use Rattle.term_core.specs.Patterns.{injection, call, no_pattern, more_patterns}
use Rattle.term_core.specs.Instances.{patterns}
use Rattle.pat_matrix.specs.Heads.{pattern_list}

-- a child of a pattern: an argument of a constructor, or the pattern of an injection
abbrev pub part : Pattern → ℕ → Option Pattern
part (variable x) i = None
part (domain_value s v) i = None
part (application f ps) i = slice_get (pattern_list ps) i
part (injection a b p) zero = Some p
part (injection a b p) (suc i) = None
part (call f ss ps) i = None

-- the pattern, if it is not a variable
abbrev pub asking : Pattern → Option Pattern
asking (variable x) = None
asking (domain_value s v) = Some (domain_value s v)
asking (application f ps) = Some (application f ps)
asking (injection a b p) = Some (injection a b p)
asking (call f ss ps) = Some (call f ss ps)

-- what the pattern asks below its root, on this way down
abbrev pub asked : Pattern → List ℕ → Option Pattern
asked p [] = asking p
asked p (i ∷ way) = option_and_then (λ (q : Pattern). asked q way) (part p i)

-- what a row asks at a position: none if a variable is at or above it
abbrev pub row_asks : List Pattern → List ℕ → Option Pattern
row_asks ps [] = None
row_asks ps (i ∷ way) = option_and_then (λ (q : Pattern). asked q way) (slice_get ps i)

-- the term on this way down
abbrev pub tree_at : Tree → List ℕ → Option Tree
tree_at t [] = Some t
tree_at t (i ∷ way) = option_and_then (λ (u : Tree). tree_at u way) (slice_get (children t) i)

-- the term at a position of the subjects
abbrev pub subject_at : List Tree → List ℕ → Option Tree
subject_at ts [] = None
subject_at ts (i ∷ way) = option_and_then (λ (u : Tree). tree_at u way) (slice_get ts i)

-- the positions that a pattern at this position asks, from the root down
abbrev mutual
  pub asked_below : List ℕ → Pattern → List (List ℕ)
  asked_below position (variable x) = []
  asked_below position (domain_value s v) = position ∷ []
  asked_below position (application f ps) = position ∷ all_asked position 0 ps
  asked_below position (injection a b p) = position ∷ asked_below (position ++ 0 ∷ []) p
  asked_below position (call f ss ps) = position ∷ []

  -- those of the children from k on
  pub all_asked : List ℕ → ℕ → Patterns → List (List ℕ)
  all_asked position k no_pattern = []
  all_asked position k (more_patterns p ps) =
      asked_below (position ++ k ∷ []) p ++ all_asked position (k + 1) ps

-- the positions that a row asks
abbrev pub asked_positions : List Pattern → List (List ℕ)
asked_positions ps = all_asked [] 0 (patterns ps)
