-- The test that terms have the heads for which patterns ask.
use Rattle.std.specs.Prelude.{◌&&◌, ℕ, Bool, true, false, List, [], ◌∷◌}
use Rattle.term_core.specs.Terms.{Tree}
use Rattle.term_core.specs.Forests.{children}
use Rattle.term_core.specs.Patterns.{Pattern, Patterns, variable, domain_value, application}
use Rattle.term_core.specs.Patterns.{injection, call, no_pattern, more_patterns}
use Rattle.pat_matrix.specs.Heads.{root, takes}

-- the first tree passes a test
abbrev pub first_passes : (Tree → Bool) → List Tree → Bool
first_passes test [] = false
first_passes test (u ∷ us) = test u

-- the term has every head for which the pattern asks
abbrev mutual
  pub agree : List (ℕ × ℕ) → Pattern → Tree → Bool
  agree pairs (variable x) t = true
  agree pairs (domain_value s v) t = takes pairs (domain_value s v) (root t)
  agree pairs (application f ps) t =
      takes pairs (application f ps) (root t) && all_agree pairs ps (children t)
  agree pairs (injection b c p) t =
      takes pairs (injection b c p) (root t) && first_passes (agree pairs p) (children t)
  agree pairs (call f ss ps) t = false

  pub all_agree : List (ℕ × ℕ) → Patterns → List Tree → Bool
  all_agree pairs no_pattern us = true
  all_agree pairs (more_patterns p ps) [] = false
  all_agree pairs (more_patterns p ps) (u ∷ us) = agree pairs p u && all_agree pairs ps us
