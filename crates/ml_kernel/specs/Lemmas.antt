-- Patterns with pattern variables, as in lemmas, and their instances.
use Rattle.std.specs.Prelude.{ℕ, ◌<◌, List, [], ◌∷◌, slice_index_or}
use Rattle.ml_pat.specs.Patterns.{Pattern, nullary, unary, binary, sorted, quantified, var, meta}
use Rattle.ml_pat.specs.Patterns.{constant}

-- the pattern with each pattern variable replaced by the pattern of the list at its number, if
-- there is one
abbrev pub instance : List Pattern → Pattern → Pattern
instance ms (nullary c) = nullary c
instance ms (binary c p q) = binary c (instance ms p) (instance ms q)
instance ms (unary c p) = unary c (instance ms p)
instance ms (sorted c p s) = sorted c (instance ms p) s
instance ms (quantified c x s p) = quantified c x s (instance ms p)
instance ms (var x) = var x
instance ms (meta i) = slice_index_or ms i (meta i)
instance ms (constant c) = constant c

-- the instances of some patterns
abbrev pub instances : List Pattern → List Pattern → List Pattern
instances ms [] = []
instances ms (p ∷ ps) = instance ms p ∷ instances ms ps

-- each pattern variable of the pattern has a number below n
abbrev pub IsMetaBelow : ℕ → Pattern → Type 0
IsMetaBelow n (nullary c) = Unit {0}
IsMetaBelow n (binary c p q) = IsMetaBelow n p × IsMetaBelow n q
IsMetaBelow n (unary c p) = IsMetaBelow n p
IsMetaBelow n (sorted c p s) = IsMetaBelow n p
IsMetaBelow n (quantified c x s p) = IsMetaBelow n p
IsMetaBelow n (var x) = Unit {0}
IsMetaBelow n (meta i) = i < n
IsMetaBelow n (constant c) = Unit {0}

abbrev pub AreMetasBelow : ℕ → List Pattern → Type 0
AreMetasBelow n [] = Unit {0}
AreMetasBelow n (p ∷ ps) = IsMetaBelow n p × AreMetasBelow n ps

-- no pattern variable occurs in the pattern
abbrev pub HasNoMeta : Pattern → Type 0
HasNoMeta p = IsMetaBelow 0 p

-- no object variable occurs in the pattern, bound or free
abbrev pub HasNoVariable : Pattern → Type 0
HasNoVariable (nullary c) = Unit {0}
HasNoVariable (binary c p q) = HasNoVariable p × HasNoVariable q
HasNoVariable (unary c p) = HasNoVariable p
HasNoVariable (sorted c p s) = HasNoVariable p
HasNoVariable (quantified c x s p) = ⊥
HasNoVariable (var x) = ⊥
HasNoVariable (meta i) = Unit {0}
HasNoVariable (constant c) = Unit {0}

abbrev pub HaveNoVariables : List Pattern → Type 0
HaveNoVariables [] = Unit {0}
HaveNoVariables (p ∷ ps) = HasNoVariable p × HaveNoVariables ps
