-- The test that two trees are equal.
use Rattle.std.specs.Prelude.{◌==◌, ◌&&◌, Bool, true, false, not}
use Rattle.std.specs.Ordering.{int_eq}
use Rattle.std.specs.Str.{bytes_eq}
use Rattle.term_core.specs.Terms.{DomainValue, integer, truth, text, Tree, leaf, node, inj, Forest}
use Rattle.term_core.specs.Terms.{no_tree, more_trees}

abbrev pub truth_eq : Bool → Bool → Bool
truth_eq true b = b
truth_eq false b = not b

abbrev pub value_eq : DomainValue → DomainValue → Bool
value_eq (integer n) (integer m) = int_eq n m
value_eq (truth a) (truth b) = truth_eq a b
value_eq (text xs) (text ys) = bytes_eq xs ys
value_eq v w = false

abbrev mutual
  pub tree_eq : Tree → Tree → Bool
  tree_eq (leaf s v) (leaf r w) = (s == r) && value_eq v w
  tree_eq (node f ts) (node g us) = (f == g) && forest_eq ts us
  tree_eq (inj a b t) (inj c d u) = (a == c) && ((b == d) && tree_eq t u)
  tree_eq t u = false

  pub forest_eq : Forest → Forest → Bool
  forest_eq no_tree no_tree = true
  forest_eq (more_trees t ts) (more_trees u us) = tree_eq t u && forest_eq ts us
  forest_eq ts us = false
