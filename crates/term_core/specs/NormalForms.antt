-- The normal form of a term.
use Rattle.term_core.specs.Terms.{Forest, Tree, inj, injected, leaf, more_trees, no_tree, node}

-- The normal form: two injections in a row become one, from the source sort of the inner one to the
-- target sort of the outer one, until no two are in a row.
abbrev mutual
  pub norm : Tree → Tree
  norm (leaf s v) = leaf s v
  norm (node f ts) = node f (norms ts)
  norm (inj a b t) = injected a b (norm t)

  pub norms : Forest → Forest
  norms no_tree = no_tree
  norms (more_trees t ts) = more_trees (norm t) (norms ts)
