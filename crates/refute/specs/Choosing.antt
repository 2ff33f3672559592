-- A pattern with a name in the place of the part that it names.
use Rattle.std.specs.Prelude.{◌==◌, ◌||◌, ℕ, ◌+◌, Bool, false, if◌then◌else◌, List, [], ◌∷◌}
use Rattle.term_core.specs.Patterns.{Pattern, Patterns, variable, domain_value, application}
use Rattle.term_core.specs.Patterns.{injection, call, no_pattern, more_patterns}
use Rattle.rule_core.specs.NamedParts.{Name}
use Rattle.ml_image.specs.NamedSides.{of_whole, of_child}

-- whether one of the names is x
abbrev pub is_named : ℕ → List Name → Bool
is_named x [] = false
is_named x (n ∷ names) = (n.variable == x) || is_named x names

-- the variable x if it is one of these names, and else the pattern
abbrev pub or_name : ℕ → List Name → Pattern → Pattern
or_name x names p = if is_named x names then variable x else p

-- the pattern, whose parts have these names, with the name x in the place of its part, if there is
-- such a name
abbrev mutual
  pub chosen : ℕ → List Name → Pattern → Pattern
  chosen x names (variable y) = or_name x (of_whole names) (variable y)
  chosen x names (domain_value s v) = or_name x (of_whole names) (domain_value s v)
  chosen x names (application f ps) =
      or_name x (of_whole names) (application f (all_chosen x names 0 ps))
  chosen x names (injection a b p) =
      or_name x (of_whole names) (injection a b (chosen x (of_child 0 names) p))
  chosen x names (call f ss ps) = or_name x (of_whole names) (call f ss ps)

  -- the same for patterns, the first of which is the child k
  pub all_chosen : ℕ → List Name → ℕ → Patterns → Patterns
  all_chosen x names k no_pattern = no_pattern
  all_chosen x names k (more_patterns p ps) =
      more_patterns (chosen x (of_child k names) p) (all_chosen x names (k + 1) ps)

-- the same without the names of the whole pattern
abbrev pub part_chosen : ℕ → List Name → Pattern → Pattern
part_chosen x names (variable y) = variable y
part_chosen x names (domain_value s v) = domain_value s v
part_chosen x names (application f ps) = application f (all_chosen x names 0 ps)
part_chosen x names (injection a b p) = injection a b (chosen x (of_child 0 names) p)
part_chosen x names (call f ss ps) = call f ss ps
