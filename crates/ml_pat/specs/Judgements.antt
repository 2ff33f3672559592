-- The judgements about patterns and variables that the rules of the logic need (Rosu 2017; the
-- tables of judgements of the Metamath header): freshness, substitution without capture, and being
-- everything or nothing. A pattern variable of a lemma stands for patterns without variables: every
-- variable is fresh in it, and substitution does not change it. It is not a predicate.
use Rattle.std.specs.Prelude.{ℕ, ◌==◌, ◌||◌, ◌&&◌, Bool, true, false, IsTrue, if◌then◌else◌, Option}
use Rattle.std.specs.Prelude.{Some, None, option_map}
use Rattle.std.specs.Prelude as std
use Rattle.ml_pat.specs.Patterns.{Pattern, nullary, unary, binary, sorted, quantified, imp, not}
use Rattle.ml_pat.specs.Patterns.{and, or, equal, member, fun, var, meta, constant}

-- whether x is not free in the pattern
abbrev pub fresh : ℕ → Pattern → Bool
fresh x (nullary c) = true
fresh x (binary c p q) = fresh x p && fresh x q
fresh x (unary c p) = fresh x p
fresh x (sorted c p s) = fresh x p
fresh x (quantified c y s p) = (x == y) || fresh x p
fresh x (var y) = std.not (x == y)
fresh x (meta i) = true
fresh x (constant c) = true

-- x is not free in the pattern
abbrev pub IsFresh : ℕ → Pattern → Type 0
IsFresh x p = IsTrue (fresh x p)

-- whether x does not occur in the pattern, bound or free
abbrev pub absent : ℕ → Pattern → Bool
absent x (nullary c) = true
absent x (binary c p q) = absent x p && absent x q
absent x (unary c p) = absent x p
absent x (sorted c p s) = absent x p
absent x (quantified c y s p) = std.not (x == y) && absent x p
absent x (var y) = std.not (x == y)
absent x (meta i) = true
absent x (constant c) = true

-- x does not occur in the pattern
abbrev pub IsAbsent : ℕ → Pattern → Type 0
IsAbsent x p = IsTrue (absent x p)

-- a pattern of two parts, if both are given
abbrev pub both_parts : (Pattern → Pattern → Pattern) → Option Pattern → Option Pattern
    → Option Pattern
both_parts f None q = None
both_parts f (Some p) None = None
both_parts f (Some p) (Some q) = Some (f p q)

-- Under the quantifier of y, whose body is p and has become p': if x is bound there or not free
-- there, nothing changes. Otherwise, if y is free in u, there is no result, since y would be
-- captured.
abbrev pub under_quantifier : (Pattern → Pattern) → ℕ → ℕ → Pattern → Pattern → Option Pattern
    → Option Pattern
under_quantifier f x y u p p' =
    if (x == y) || fresh x p then Some (f p) else (if fresh y u then option_map f p' else None)

-- The pattern with u substituted for each free x. There is none if a free variable of u would be
-- captured.
abbrev pub substituted : Pattern → ℕ → Pattern → Option Pattern
substituted (nullary c) x u = Some (nullary c)
substituted (binary c p q) x u = both_parts (binary c) (substituted p x u) (substituted q x u)
substituted (unary c p) x u = option_map (unary c) (substituted p x u)
substituted (sorted c p s) x u = option_map (λ p'. sorted c p' s) (substituted p x u)
substituted (quantified c y s p) x u =
    under_quantifier (quantified c y s) x y u p (substituted p x u)
substituted (var y) x u = if x == y then Some u else Some (var y)
substituted (meta i) x u = Some (meta i)
substituted (constant c) x u = Some (constant c)

-- whether the form of the pattern makes it everything or nothing; no other forms do
abbrev pub predicate : Pattern → Bool
predicate (nullary c) = true
predicate (imp p q) = predicate p && predicate q
predicate (not p) = predicate p
predicate (and p q) = predicate p && predicate q
predicate (or p q) = predicate p && predicate q
predicate (equal p q) = true
predicate (member p q) = true
predicate (fun p s) = true
predicate (quantified c y s p) = predicate p
predicate p = false

-- the pattern is everything or nothing
abbrev pub IsPredicate : Pattern → Type 0
IsPredicate p = IsTrue (predicate p)
