-- Parts of a left side that have a name (Kore language document, "Patterns"): in `\and{S}(p, X)` the
-- variable X names what p matches. A left side is then its pattern without the names, and a list of
-- names.
use Rattle.std.specs.Prelude.{◌≡◌, ◌⊎◌, ℕ, zero, suc, Bool, List, [], ◌∷◌, All, Option, Some, None}
use Rattle.std.specs.Prelude.{slice_get}
use Rattle.std.specs.Option.{option_and_then}
use Rattle.term_core.specs.Terms.{Tree}
use Rattle.term_core.specs.Patterns.{Pattern, Patterns, application, injection, no_pattern}
use Rattle.term_core.specs.Patterns.{more_patterns, instance_of}

-- The variable, and the place of the part that it names: the number of an argument, which is 0 for a
-- rule, and then the way of child numbers to the part. `first` says that the variable is written
-- before the part.
pub record Name : Type 0 where
  pub variable : ℕ
  pub place : List ℕ
  pub first : Bool

-- one of the names is this variable
abbrev pub IsNamed : List Name → ℕ → Type 0
IsNamed [] x = ⊥
IsNamed (n ∷ names) x = (n.variable ≡ x) ⊎ IsNamed names x

-- the pattern with this number
abbrev pub pattern_at : Patterns → ℕ → Option Pattern
pattern_at no_pattern i = None
pattern_at (more_patterns p ps) zero = Some p
pattern_at (more_patterns p ps) (suc i) = pattern_at ps i

-- the patterns right below a pattern
abbrev pub parts : Pattern → Patterns
parts (application f ps) = ps
parts (injection a b p) = more_patterns p no_pattern
parts _ = no_pattern

-- the part to which a way of child numbers leads
abbrev pub part_at : List ℕ → Pattern → Option Pattern
part_at [] p = Some p
part_at (i ∷ way) p = option_and_then (part_at way) (pattern_at (parts p) i)

-- the part at a place
abbrev pub part_of : Patterns → List ℕ → Option Pattern
part_of ps [] = None
part_of ps (i ∷ way) = option_and_then (part_at way) (pattern_at ps i)

-- the term that the part at a place becomes under a substitution
abbrev pub part_instance : List (Option Tree) → Patterns → List ℕ → Option Tree
part_instance theta ps place = option_and_then (instance_of theta) (part_of ps place)
