-- Patterns of rules (Kore language document, "Patterns"): terms with variables and calls of
-- functions. Variables are numbers too. A substitution is a list, indexed by the variables'
-- numbers. It has the term of each variable that is bound.
use Rattle.std.specs.Prelude.{ℕ, List, Option, Some, None, option_map, slice_index_or}
use Rattle.term_core.specs.Terms.{DomainValue, Tree, leaf, node, inj, Forest, no_tree, more_trees}
use Rattle.term_core.specs.Terms.{injected}

-- `call` has the symbol of a function, its sort arguments, and its arguments.
mutual
  pub data Pattern : Type 0 where
    variable : ℕ → Pattern
    domain_value : ℕ → DomainValue → Pattern
    application : ℕ → Patterns → Pattern
    injection : ℕ → ℕ → Pattern → Pattern
    call : ℕ → List ℕ → Patterns → Pattern

  pub data Patterns : Type 0 where
    no_pattern : Patterns
    more_patterns : Pattern → Patterns → Patterns

-- the tree that a substitution has for a variable, if the variable is bound
abbrev pub binding : List (Option Tree) → ℕ → Option Tree
binding theta x = slice_index_or theta x None

-- a tree in front of trees, if both are given
abbrev pub with_first : Option Tree → Option Forest → Option Forest
with_first None ts = None
with_first (Some t) None = None
with_first (Some t) (Some ts) = Some (more_trees t ts)

-- The same tree, but two injections in a row are joined when the tree is built. If the terms of the
-- substitution are normal, it is the normal form of `substituted`.
abbrev mutual
  pub instance_of : List (Option Tree) → Pattern → Option Tree
  instance_of theta (variable x) = binding theta x
  instance_of theta (domain_value s v) = Some (leaf s v)
  instance_of theta (application f ps) = option_map (node f) (instances_of theta ps)
  instance_of theta (injection a b p) = option_map (injected a b) (instance_of theta p)
  instance_of theta (call f ss ps) = None

  pub instances_of : List (Option Tree) → Patterns → Option Forest
  instances_of theta no_pattern = Some no_tree
  instances_of theta (more_patterns p ps) = with_first (instance_of theta p) (instances_of theta ps)

-- the pattern whose only instance is this tree
abbrev mutual
  pub ground_pattern : Tree → Pattern
  ground_pattern (leaf s v) = domain_value s v
  ground_pattern (node f ts) = application f (ground_patterns ts)
  ground_pattern (inj a b t) = injection a b (ground_pattern t)

  pub ground_patterns : Forest → Patterns
  ground_patterns no_tree = no_pattern
  ground_patterns (more_trees t ts) = more_patterns (ground_pattern t) (ground_patterns ts)
