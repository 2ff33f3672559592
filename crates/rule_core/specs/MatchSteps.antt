-- Matching as the private functions do it. They take the term apart, and add bindings to the
-- current ones.
use Rattle.std.specs.Prelude.{◌≡◌, ◌==◌, ◌&&◌, ◌||◌, if◌then◌else◌, ℕ, Bool, true, false, List}
use Rattle.std.specs.Prelude.{slice_set, Option, Some, None}
use Rattle.std.specs.Option.{option_and_then}
use Rattle.rule_core.specs.Subsorts.{is_below}
use Rattle.term_core.specs.Terms.{Tree, leaf, node, inj, Forest, no_tree, more_trees}
use Rattle.term_core.specs.TreeTest.{tree_eq}
use Rattle.term_core.specs.Patterns.{Pattern, Patterns, variable, domain_value, application}
use Rattle.term_core.specs.Patterns.{injection, call, no_pattern, more_patterns, binding}

-- the tree to bind to a variable of the sort b under an injection, if the term injects this tree
-- from the sort a
abbrev pub lowered : ℕ → ℕ → Tree → Tree
lowered a b t = if a == b then t else inj a b t

-- the substitution after the variable is bound to the tree, given its current binding; none if it
-- is bound to another tree
abbrev pub bound_to : Tree → ℕ → List (Option Tree) → Option Tree → Option (List (Option Tree))
bound_to t x theta None = Some (slice_set theta x (Some t))
bound_to t x theta (Some u) = if tree_eq u t then Some theta else None

-- the substitution with the bindings that matching adds; none if there is no match
abbrev mutual
  pub matched : List (ℕ × ℕ) → Pattern → Tree → List (Option Tree) → Option (List (Option Tree))
  matched pairs (variable x) t theta = bound_to t x theta (binding theta x)
  matched pairs (domain_value s v) t theta = if tree_eq t (leaf s v) then Some theta else None
  matched pairs (application f ps) (leaf s v) theta = None
  matched pairs (application f ps) (node g ts) theta =
      if f == g then all_matched pairs ps ts theta else None
  matched pairs (application f ps) (inj a b t) theta = None
  matched pairs (injection b c p) (leaf s v) theta = None
  matched pairs (injection b c p) (node g ts) theta = None
  matched pairs (injection b c p) (inj a d t) theta =
      if (c == d) && (a == b || is_below pairs a b) then matched pairs p (lowered a b t) theta
      else None
  matched pairs (call f sorts ps) t theta = None

  pub all_matched : List (ℕ × ℕ) → Patterns → Forest → List (Option Tree)
      → Option (List (Option Tree))
  all_matched pairs no_pattern no_tree theta = Some theta
  all_matched pairs no_pattern (more_trees t ts) theta = None
  all_matched pairs (more_patterns p ps) no_tree theta = None
  all_matched pairs (more_patterns p ps) (more_trees t ts) theta =
      option_and_then (all_matched pairs ps ts) (matched pairs p t theta)

-- the result of a search agrees with what is found: the substitution is this one, or there is none
abbrev pub AgreesWithSearch : Option (List (Option Tree)) → Bool → List (Option Tree) → Type 0
AgreesWithSearch found true theta = found ≡ Some theta
AgreesWithSearch found false theta = found ≡ None
