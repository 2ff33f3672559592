-- The tree that represents a `Term` of the code. The children of the tree represent the children of
-- the term.
use Rattle.std.specs.Prelude.{ℕ, ◌≡◌, ◌≤◌}
use Rattle.term_core.specs.Terms.{Tree, leaf, node, inj, height, IsNormal}
use Rattle.term_core.specs.Forests.{forest}
use Rattle.term_core.specs.Values.{value_of}
use Rattle.term_core.specs.declared.terms.Node.{Node}
use Rattle.term_core.specs.declared.terms.Node.TheVariants as form
use Rattle.term_core.specs.declared.terms.Term.TheInside.{Inside}

abbrev pub node_tree : Node → Tree
node_tree (form.Leaf s v) = leaf s.0 (value_of v)
node_tree (form.Ctor f args) = node f.0 (forest args.items)
node_tree (form.Inj a b t) = inj a.0 b.0 t

abbrev pub tree_of : Inside → Tree
tree_of a = node_tree a.node.value

-- what holds of every term of the code: it is normal, its height is the stored height, and that is
-- at most 500
pub record IsTermOfHeight (high : ℕ) (t : Tree) : Type 0 where
  pub normal : IsNormal t
  pub value : high ≡ height t
  pub bound : high ≤ 500
