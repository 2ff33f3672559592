-- Whether an injection of an injection occurs in what a pattern becomes.
use Rattle.std.specs.Prelude.{◌||◌, Bool, true, false, List, Option, Some, None}
use Rattle.term_core.specs.Terms.{Tree, leaf, node, inj}
use Rattle.term_core.specs.Patterns.{Pattern, Patterns, variable, domain_value, application}
use Rattle.term_core.specs.Patterns.{injection, call, no_pattern, more_patterns, binding}

abbrev pub is_injection : Tree → Bool
is_injection (leaf s v) = false
is_injection (node f ts) = false
is_injection (inj a b t) = true

abbrev pub is_injection_there : Option Tree → Bool
is_injection_there None = false
is_injection_there (Some t) = is_injection t

-- the pattern becomes an injection
abbrev pub becomes_injection : List (Option Tree) → Pattern → Bool
becomes_injection theta (variable x) = is_injection_there (binding theta x)
becomes_injection theta (domain_value s v) = false
becomes_injection theta (application f ps) = false
becomes_injection theta (injection a b p) = true
becomes_injection theta (call f ss ps) = false

-- an injection occurs directly above another one in what the pattern becomes as it is written
abbrev mutual
  pub meet_in : List (Option Tree) → Pattern → Bool
  meet_in theta (variable x) = false
  meet_in theta (domain_value s v) = false
  meet_in theta (application f ps) = meet_in_some theta ps
  meet_in theta (injection a b p) = becomes_injection theta p || meet_in theta p
  meet_in theta (call f ss ps) = false

  pub meet_in_some : List (Option Tree) → Patterns → Bool
  meet_in_some theta no_pattern = false
  meet_in_some theta (more_patterns p ps) = meet_in theta p || meet_in_some theta ps
