-- Rewrite rules and equations, and the order in which they are tried (K framework: a smaller number
-- is a higher priority).
use Rattle.std.specs.Prelude.{◌≡◌, ℕ, ◌<◌, ◌⊎◌, List, [], ◌∷◌, Option, All}
use Rattle.term_core.specs.Patterns.{Pattern, Patterns}
use Rattle.rule_core.specs.NamedParts.{Name}

-- A rule rewrites an instance of its left side to the instance of its right side, if its condition
-- evaluates to `true` or if it has no condition. Parts of its left side may have names. It has the
-- sorts of its variables, indexed by number, and its position in the file.
pub record RewriteRule : Type 0 where
  pub left : Pattern
  pub names : List Name
  pub condition : Option Pattern
  pub right : Pattern
  pub variables : List ℕ
  pub priority : ℕ
  pub place : ℕ

-- A guard of an equation of the last resort: the number of the equation that it repeats, and that
-- equation's variables in the order in which the guard quantifies them.
pub record Guard : Type 0 where
  pub equation : ℕ
  pub order : List ℕ

-- An equation says that the value of a function at an instance of these arguments is the value of
-- the right side. The condition, the names and the variables are as for a rule. `parameters` is the
-- number of parameters that its text gives the function, or 0 if there are none. A text with
-- parameters says first what they match. An equation of the last resort (`owise`) lists guards, each
-- of which says when another equation of the function is used.
pub record Equation : Type 0 where
  pub parameters : ℕ
  pub arguments : Patterns
  pub names : List Name
  pub last_resort : Option (List Guard)
  pub condition : Option Pattern
  pub right : Pattern
  pub variables : List ℕ
  pub priority : ℕ
  pub place : ℕ

-- The smaller priority number comes first. If they are equal, the earlier position in the file
-- comes first.
abbrev pub ComesBefore : ℕ × ℕ → ℕ × ℕ → Type 0
ComesBefore earlier later = (earlier.0 < later.0) ⊎ ((earlier.0 ≡ later.0) × (earlier.1 < later.1))

-- each comes before those that are listed after it
abbrev pub AreInOrder : List (ℕ × ℕ) → Type 0
AreInOrder [] = Unit {0}
AreInOrder (first ∷ later) = All (ComesBefore first) later × AreInOrder later
