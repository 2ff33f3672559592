-- Patterns of one sort that have no common instance: a domain value, a constructor and an injection
-- never make the same term, nor do injections from two sorts, unless one of the sorts is below the
-- other.
use Rattle.std.specs.Prelude.{◌≡◌, ◌≢◌, ◌+◌, ◌⊎◌, ℕ, false, zero, suc, List, [], ◌∷◌, ◌++◌, length}
use Rattle.term_core.specs.Terms.{DomainValue}
use Rattle.term_core.specs.Patterns.{Pattern, Patterns, variable, domain_value, application}
use Rattle.term_core.specs.Patterns.{injection, no_pattern, more_patterns}
use Rattle.rule_core.specs.Subsorts.{IsBelow}
use Rattle.rule_core.specs.Sorting.{HasValue}
use Rattle.rule_core.specs.declared.signature.Signature.{Signature}
use Rattle.rule_core.specs.declared.signature.SymInfo.{SymInfo}
use Rattle.ml_image.specs.OwnAxioms.{IsConstructor}

-- A domain value, or a constructor of variables: its symbol, and the sorts of its arguments.
pub data Head : Type 0 where
  value : DomainValue → Head
  constructor : ℕ → List ℕ → Head

-- A head, or the injection from this sort of a variable or of a head.
pub data Side : Type 0 where
  plain : Head → Side
  injected_variable : ℕ → Side
  injected_head : ℕ → Head → Side

-- this many variables, numbered from k
abbrev pub numbered : ℕ → ℕ → Patterns
numbered k zero = no_pattern
numbered k (suc n) = more_patterns (variable k) (numbered (k + 1) n)

-- the sorts of its variables, in order
abbrev pub head_sorts : Head → List ℕ
head_sorts (value v) = []
head_sorts (constructor f sorts) = sorts

abbrev pub side_sorts : Side → List ℕ
side_sorts (plain h) = head_sorts h
side_sorts (injected_variable a) = a ∷ []
side_sorts (injected_head a h) = head_sorts h

-- its pattern of the given sort, with the variables numbered from k
abbrev pub head_pattern : ℕ → ℕ → Head → Pattern
head_pattern sort k (value v) = domain_value sort v
head_pattern sort k (constructor f sorts) = application f (numbered k (length sorts))

abbrev pub side_pattern : ℕ → ℕ → Side → Pattern
side_pattern sort k (plain h) = head_pattern sort k h
side_pattern sort k (injected_variable a) = injection a sort (variable k)
side_pattern sort k (injected_head a h) = injection a sort (head_pattern a k h)

-- It has this sort. A constructor is not associative, commutative or idempotent, and has no unit.
-- An injection is from a sort below.
abbrev pub IsHead : Signature → ℕ → Head → Type 0
IsHead sig sort (value v) = HasValue sig sort v
IsHead sig sort (constructor f sorts) =
    (info : SymInfo) × IsConstructor sig f info sorts sort × (info.ac ≡ false)

abbrev pub IsSide : Signature → ℕ → Side → Type 0
IsSide sig sort (plain h) = IsHead sig sort h
IsSide sig sort (injected_variable a) = IsBelow sig.subsorts a sort
IsSide sig sort (injected_head a h) = IsBelow sig.subsorts a sort × IsHead sig a h

-- no instance of the one is an instance of the other
abbrev pub Differ : Signature → Side → Side → Type 0
Differ sig (plain (value v)) (plain (value w)) = v ≢ w
Differ sig (plain (value v)) (plain (constructor f sorts)) = Unit {0}
Differ sig (plain h) (injected_variable a) = Unit {0}
Differ sig (injected_variable a) (injected_head b h) = (a ≢ b) × (IsBelow sig.subsorts b a → ⊥)
Differ sig _ _ = ⊥

-- Two patterns of one sort are such sides, in one order or the other. The variables of the first,
-- and then those of the second, are numbered from 0. They have these sorts.
pub record AreApart (sig : Signature) (p q : Pattern) (sorts : List ℕ) : Type 0 where
  pub sort : ℕ
  pub one : Side
  pub other : Side
  pub is_one : IsSide sig sort one
  pub is_other : IsSide sig sort other
  pub differ : Differ sig one other ⊎ Differ sig other one
  pub first : p ≡ side_pattern sort 0 one
  pub second : q ≡ side_pattern sort (length (side_sorts one)) other
  pub sorts_are : sorts ≡ side_sorts one ++ side_sorts other
