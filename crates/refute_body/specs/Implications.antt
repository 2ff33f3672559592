-- The forms of the implications that say what follows from a body, or that it does not hold.
use Rattle.std.specs.Prelude.{◌≡◌, ◌==◌, ◌⊎◌, ℕ, suc, Bool, true, false, if◌then◌else◌, IsTrue, List, []}
use Rattle.std.specs.Prelude.{◌∷◌, map}
use Rattle.ml_pat.specs.Patterns.{Pattern, bot, top, imp, and, equal, fun, ex, var}
use Rattle.ml_pat.specs.Judgements.{IsFresh}
use Rattle.rule_core.specs.WellSorted.{AreDifferent}

-- ---- quantifiers

-- each of these variables is one element of its sort
abbrev pub elements : List (ℕ × ℕ) → Pattern
elements [] = top
elements ((x, s) ∷ ps) = and (fun (var x) s) (elements ps)

-- the pattern holds for some values of these variables, the first innermost
abbrev pub for_some_of : List (ℕ × ℕ) → Pattern → Pattern
for_some_of [] e = e
for_some_of ((x, s) ∷ ps) e = for_some_of ps (ex x s e)

-- `fun x s & g -> e -> bot`, where x is not free in g
pub record CanClose (c : Pattern) : Type 0 where
  pub x : ℕ
  pub s : ℕ
  pub g : Pattern
  pub e : Pattern
  pub is : c ≡ imp (and (fun (var x) s) g) (imp e bot)
  pub apart : IsFresh x g

-- `g -> ex x s e -> bot`
abbrev pub IsClosed : Pattern → Pattern → Type 0
IsClosed c made =
    (x s : ℕ) (g e : Pattern) → c ≡ imp (and (fun (var x) s) g) (imp e bot)
    → made ≡ imp g (imp (ex x s e) bot)

-- the number of a variable
abbrev pub variable_of : ℕ × ℕ → ℕ
variable_of p = p.0

-- if these different variables are elements of their sorts, the pattern does not hold
pub record IsOpen (ps : List (ℕ × ℕ)) (e c : Pattern) : Type 0 where
  pub different : AreDifferent (map variable_of ps)
  pub is : c ≡ imp (elements ps) (imp e bot)

-- ---- equations

-- `g -> b -> p`
abbrev pub IsUnderTwo : Pattern → Pattern → Pattern → Pattern → Type 0
IsUnderTwo g b p c = c ≡ imp g (imp b p)

-- whether the pattern is this variable
abbrev pub is_variable : ℕ → Pattern → Bool
is_variable x (var y) = y == x
is_variable x p = false

-- whether the pattern is an equation of this variable
abbrev pub is_equation_on : ℕ → Pattern → Bool
is_equation_on x (equal p q) = is_variable x p
is_equation_on x p = false

-- the first of the equations of a conjunction that is of this variable
abbrev pub first_equation : ℕ → Pattern → Pattern
first_equation x (and p q) = if is_equation_on x p then p else first_equation x q
first_equation x p = bot

-- one of the equations of a conjunction is of this variable
abbrev pub HasEquation : ℕ → Pattern → Type 0
HasEquation x (and p q) = IsTrue (is_equation_on x p) ⊎ HasEquation x q
HasEquation x p = ⊥

-- the number of the equations of a conjunction
abbrev pub count_of : Pattern → ℕ
count_of (and p q) = suc (count_of q)
count_of p = 0

-- whether the pattern is a conjunction
abbrev pub is_conjunction : Pattern → Bool
is_conjunction (and p q) = true
is_conjunction p = false
