-- Facts about each sort, constant and variable of a pattern.
use Rattle.std.specs.Prelude.{ℕ}
use Rattle.ml_pat.specs.Patterns.{Pattern, nullary, unary, binary, sorted, quantified, var, meta}
use Rattle.ml_pat.specs.Patterns.{constant}

-- a fact about each sort, constant, object variable and pattern variable
pub record LeafFacts : Type 1 where
  pub sort : ℕ → Type 0
  pub constant : ℕ → Type 0
  pub object : ℕ → Type 0
  pub meta : ℕ → Type 0

-- each leaf of the pattern has its fact
abbrev pub EachLeaf : LeafFacts → Pattern → Type 0
EachLeaf f (nullary c) = Unit {0}
EachLeaf f (binary c p q) = EachLeaf f p × EachLeaf f q
EachLeaf f (unary c p) = EachLeaf f p
EachLeaf f (sorted c p s) = EachLeaf f p × f.sort s
EachLeaf f (quantified c x s p) = EachLeaf f p × (f.object x × f.sort s)
EachLeaf f (var x) = f.object x
EachLeaf f (meta i) = f.meta i
EachLeaf f (constant c) = f.constant c
