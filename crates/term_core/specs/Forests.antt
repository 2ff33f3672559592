-- Forests as lists, and how many nodes a term has.
use Rattle.std.specs.Prelude.{ℕ, ◌+◌, List, [], ◌∷◌}
use Rattle.term_core.specs.Terms.{Forest, Tree, inj, leaf, more_trees, no_tree, node}

-- the trees of a list, in its order
abbrev pub forest : List Tree → Forest
forest [] = no_tree
forest (t ∷ ts) = more_trees t (forest ts)

-- the list of a forest's trees
abbrev pub trees : Forest → List Tree
trees no_tree = []
trees (more_trees t ts) = t ∷ trees ts

-- the children of a tree's root: the arguments of a constructor, or the term of an injection
abbrev pub children : Tree → List Tree
children (leaf s v) = []
children (node f ts) = trees ts
children (inj a b t) = t ∷ []

-- the number of values, constructors and injections of a tree
abbrev mutual
  pub size : Tree → ℕ
  size (leaf s v) = 1
  size (node f ts) = sizes ts + 1
  size (inj a b t) = size t + 1

  pub sizes : Forest → ℕ
  sizes no_tree = 0
  sizes (more_trees t ts) = size t + sizes ts
