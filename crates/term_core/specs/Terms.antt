-- Ground terms of Kore (Kore language document, "Patterns"; Chen and Rosu 2019): a domain value of
-- a sort, a constructor applied to terms, or an injection of a term of one sort into a supersort.
-- Sorts and symbols are numbers here.
use Rattle.std.specs.Prelude.{ℕ, ◌+◌, max, ℤ, Bool, List}

-- the value of a domain value: an integer, a truth value, or a text as its bytes
pub data DomainValue : Type 0 where
  integer : ℤ → DomainValue
  truth : Bool → DomainValue
  text : List ℕ → DomainValue

-- A term is a finite tree. `leaf` has a sort and a value. `node` has a symbol and its arguments.
-- `inj` has its source sort, its target sort, and the term.
mutual
  pub data Tree : Type 0 where
    leaf : ℕ → DomainValue → Tree
    node : ℕ → Forest → Tree
    inj : ℕ → ℕ → Tree → Tree

  pub data Forest : Type 0 where
    no_tree : Forest
    more_trees : Tree → Forest → Forest

-- The height is 1 for a value and for a constructor with no argument. Otherwise it is one more than
-- the greatest height of a child.
abbrev mutual
  pub height : Tree → ℕ
  height (leaf s v) = 1
  height (node f ts) = heights ts + 1
  height (inj a b t) = height t + 1

  pub heights : Forest → ℕ
  heights no_tree = 0
  heights (more_trees t ts) = max (height t) (heights ts)

-- the root is not an injection
abbrev pub IsNoInjection : Tree → Type 0
IsNoInjection (leaf s v) = Unit {0}
IsNoInjection (node f ts) = Unit {0}
IsNoInjection (inj a b t) = ⊥

-- A term is normal if no injection is the child of an injection.
abbrev mutual
  pub IsNormal : Tree → Type 0
  IsNormal (leaf s v) = Unit {0}
  IsNormal (node f ts) = AreNormal ts
  IsNormal (inj a b t) = IsNoInjection t × IsNormal t

  pub AreNormal : Forest → Type 0
  AreNormal no_tree = Unit {0}
  AreNormal (more_trees t ts) = IsNormal t × AreNormal ts

-- the injection of a term from a to b, where `inj{a,b}(t)` replaces `inj{c,b}(inj{a,c}(t))`
abbrev pub injected : ℕ → ℕ → Tree → Tree
injected a b (leaf s v) = inj a b (leaf s v)
injected a b (node f ts) = inj a b (node f ts)
injected a b (inj c d t) = inj c b t
