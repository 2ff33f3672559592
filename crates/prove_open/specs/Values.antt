-- Patterns with other patterns in place of their variables, all at once.
use Rattle.std.specs.Prelude.{◌==◌, ◌+◌, ◌<◌, ◌≤◌, ℕ, zero, suc, if◌then◌else◌, List, [], ◌∷◌}
use Rattle.ml_pat.specs.Patterns.{Pattern, nullary, unary, binary, sorted, quantified, var, meta}
use Rattle.ml_pat.specs.Patterns.{constant, and, imp, fun}

-- the pattern with what e gives in place of each variable; quantifiers are kept
abbrev pub at_values : (ℕ → Pattern) → Pattern → Pattern
at_values e (nullary c) = nullary c
at_values e (binary c p q) = binary c (at_values e p) (at_values e q)
at_values e (unary c p) = unary c (at_values e p)
at_values e (sorted c p s) = sorted c (at_values e p) s
at_values e (quantified c y s p) = quantified c y s (at_values e p)
at_values e (var y) = e y
at_values e (meta i) = meta i
at_values e (constant c) = constant c

-- the patterns, for the variables numbered from k
abbrev pub values_from : ℕ → List Pattern → ℕ → Pattern
values_from k [] y = var y
values_from k (q ∷ qs) y = if k == y then q else values_from (k + 1) qs y

-- no quantifier is in the pattern, and each variable has a number below k
abbrev pub IsOpenBelow : ℕ → Pattern → Type 0
IsOpenBelow k (nullary c) = Unit {0}
IsOpenBelow k (binary c p q) = IsOpenBelow k p × IsOpenBelow k q
IsOpenBelow k (unary c p) = IsOpenBelow k p
IsOpenBelow k (sorted c p s) = IsOpenBelow k p
IsOpenBelow k (quantified c y s p) = ⊥
IsOpenBelow k (var x) = x < k
IsOpenBelow k (meta i) = Unit {0}
IsOpenBelow k (constant c) = Unit {0}

abbrev pub AreOpenBelow : ℕ → List Pattern → Type 0
AreOpenBelow k [] = Unit {0}
AreOpenBelow k (p ∷ ps) = IsOpenBelow k p × AreOpenBelow k ps

-- each variable that the pattern binds has a number from k on
abbrev pub BindsFrom : ℕ → Pattern → Type 0
BindsFrom k (nullary c) = Unit {0}
BindsFrom k (binary c p q) = BindsFrom k p × BindsFrom k q
BindsFrom k (unary c p) = BindsFrom k p
BindsFrom k (sorted c p s) = BindsFrom k p
BindsFrom k (quantified c y s p) = (k ≤ y) × BindsFrom k p
BindsFrom k (var x) = Unit {0}
BindsFrom k (meta i) = Unit {0}
BindsFrom k (constant c) = Unit {0}

-- what e gives for n variables, numbered from k
abbrev pub given_from : (ℕ → Pattern) → ℕ → ℕ → List Pattern
given_from e k zero = []
given_from e k (suc n) = e k ∷ given_from e (k + 1) n

-- the patterns of two lists in conjunction, in order
abbrev pub paired : List Pattern → List Pattern → List Pattern
paired [] qs = []
paired (p ∷ ps) [] = []
paired (p ∷ ps) (q ∷ qs) = and p q ∷ paired ps qs

-- under the hypothesis h each pattern is one element of its sort
abbrev pub facts_under : Pattern → List Pattern → List ℕ → List Pattern
facts_under h [] ns = []
facts_under h (q ∷ qs) [] = []
facts_under h (q ∷ qs) (n ∷ ns) = imp h (fun q n) ∷ facts_under h qs ns
