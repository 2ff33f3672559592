-- Terms without injections.
use Rattle.term_core.specs.Terms.{Tree, Forest, leaf, node, inj, no_tree, more_trees}

-- the term has no injection in it
abbrev mutual
  pub HasNoInjection : Tree → Type 0
  HasNoInjection (leaf s v) = Unit {0}
  HasNoInjection (node f ts) = HaveNoInjection ts
  HasNoInjection (inj a b t) = ⊥

  pub HaveNoInjection : Forest → Type 0
  HaveNoInjection no_tree = Unit {0}
  HaveNoInjection (more_trees t ts) = HasNoInjection t × HaveNoInjection ts
