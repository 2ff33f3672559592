-- Patterns in which no injection is the child of an injection (Kore language document, "Patterns";
-- injections in a row are one injection).
use Rattle.std.specs.Prelude.{ℕ}
use Rattle.term_core.specs.Patterns.{Pattern, Patterns, variable, domain_value, application}
use Rattle.term_core.specs.Patterns.{injection, call, no_pattern, more_patterns}

-- the injection of a pattern, joined with the injection at its root, if there is one
abbrev pub joined : ℕ → ℕ → Pattern → Pattern
joined a b (variable x) = injection a b (variable x)
joined a b (domain_value s v) = injection a b (domain_value s v)
joined a b (application f ps) = injection a b (application f ps)
joined a b (injection c d p) = injection c b p
joined a b (call f ss ps) = injection a b (call f ss ps)

-- Two injections in a row become one, from the source sort of the inner one to the target sort of
-- the outer one, until no two are in a row.
abbrev mutual
  pub collapsed : Pattern → Pattern
  collapsed (variable x) = variable x
  collapsed (domain_value s v) = domain_value s v
  collapsed (application f ps) = application f (all_collapsed ps)
  collapsed (injection a b p) = joined a b (collapsed p)
  collapsed (call f ss ps) = call f ss (all_collapsed ps)

  pub all_collapsed : Patterns → Patterns
  all_collapsed no_pattern = no_pattern
  all_collapsed (more_patterns p ps) = more_patterns (collapsed p) (all_collapsed ps)

-- the root is not an injection
abbrev pub HasOtherRoot : Pattern → Type 0
HasOtherRoot (variable x) = Unit {0}
HasOtherRoot (domain_value s v) = Unit {0}
HasOtherRoot (application f ps) = Unit {0}
HasOtherRoot (injection a b p) = ⊥
HasOtherRoot (call f ss ps) = Unit {0}

-- no injection is the child of an injection
abbrev mutual
  pub IsCollapsed : Pattern → Type 0
  IsCollapsed (variable x) = Unit {0}
  IsCollapsed (domain_value s v) = Unit {0}
  IsCollapsed (application f ps) = AreCollapsed ps
  IsCollapsed (injection a b p) = HasOtherRoot p × IsCollapsed p
  IsCollapsed (call f ss ps) = AreCollapsed ps

  pub AreCollapsed : Patterns → Type 0
  AreCollapsed no_pattern = Unit {0}
  AreCollapsed (more_patterns p ps) = IsCollapsed p × AreCollapsed ps
