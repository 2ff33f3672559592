-- Patterns of rules with terms in place of their variables, as they are written.
use Rattle.std.specs.Prelude.{ℕ, List, Option, Some, None}
use Rattle.term_core.specs.Terms.{Tree}
use Rattle.term_core.specs.Patterns.{Pattern, Patterns, variable, domain_value, application}
use Rattle.term_core.specs.Patterns.{injection, call, no_pattern, more_patterns, binding}
use Rattle.term_core.specs.Patterns.{ground_pattern}

-- the term that is bound to the variable x, or the variable itself if none is
abbrev pub in_place : ℕ → Option Tree → Pattern
in_place x None = variable x
in_place x (Some t) = ground_pattern t

-- The pattern with its variables replaced by the terms that a substitution binds to them. Calls
-- stay, and so do injections of injections.
abbrev mutual
  pub filled : List (Option Tree) → Pattern → Pattern
  filled theta (variable x) = in_place x (binding theta x)
  filled theta (domain_value s v) = domain_value s v
  filled theta (application f ps) = application f (all_filled theta ps)
  filled theta (injection a b p) = injection a b (filled theta p)
  filled theta (call f ss ps) = call f ss (all_filled theta ps)

  pub all_filled : List (Option Tree) → Patterns → Patterns
  all_filled theta no_pattern = no_pattern
  all_filled theta (more_patterns p ps) = more_patterns (filled theta p) (all_filled theta ps)
