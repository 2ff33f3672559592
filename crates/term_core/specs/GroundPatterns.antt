-- Patterns with exactly one instance. The laws are about these.
use Rattle.term_core.specs.Patterns.{Pattern, Patterns, variable, domain_value, application}
use Rattle.term_core.specs.Patterns.{injection, call, no_pattern, more_patterns}

-- the pattern has no variable and no call of a function
abbrev mutual
  pub IsGround : Pattern → Type 0
  IsGround (variable x) = ⊥
  IsGround (domain_value s v) = Unit {0}
  IsGround (application f ps) = AreGround ps
  IsGround (injection a b p) = IsGround p
  IsGround (call f ss ps) = ⊥

  pub AreGround : Patterns → Type 0
  AreGround no_pattern = Unit {0}
  AreGround (more_patterns p ps) = IsGround p × AreGround ps
