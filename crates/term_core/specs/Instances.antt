-- What holds of instances and of substitutions apart from matching: instances whose injections are
-- not joined, bindings that are all normal, and instances that are not too high.
use Rattle.std.specs.Prelude.{ℕ, List, [], ◌∷◌, Option, Some, None, option_map, IsSomeAnd, ◌≤◌}
use Rattle.term_core.specs.Terms.{Tree, leaf, node, inj, Forest, no_tree, height, IsNormal}
use Rattle.term_core.specs.Patterns.{Pattern, Patterns, application, binding, call, domain_value}
use Rattle.term_core.specs.Patterns.{injection, instance_of, more_patterns, no_pattern, variable}
use Rattle.term_core.specs.Patterns.{with_first}

-- the patterns of a list, in its order
abbrev pub patterns : List Pattern → Patterns
patterns [] = no_pattern
patterns (p ∷ ps) = more_patterns p (patterns ps)

-- each term of a substitution is normal
abbrev pub AreNormalBindings : List (Option Tree) → Type 0
AreNormalBindings [] = Unit {0}
AreNormalBindings (None ∷ theta) = AreNormalBindings theta
AreNormalBindings (Some t ∷ theta) = IsNormal t × AreNormalBindings theta

-- The tree that a pattern becomes under a substitution, with injections not joined. There is none
-- if a variable is not bound or if a function is called.
abbrev mutual
  pub substituted : List (Option Tree) → Pattern → Option Tree
  substituted theta (variable x) = binding theta x
  substituted theta (domain_value s v) = Some (leaf s v)
  substituted theta (application f ps) = option_map (node f) (all_substituted theta ps)
  substituted theta (injection a b p) = option_map (inj a b) (substituted theta p)
  substituted theta (call f ss ps) = None

  pub all_substituted : List (Option Tree) → Patterns → Option Forest
  all_substituted theta no_pattern = Some no_tree
  all_substituted theta (more_patterns p ps) =
      with_first (substituted theta p) (all_substituted theta ps)

-- There is an instance, and its height is at most n.
abbrev pub FitsWithin : ℕ → List (Option Tree) → Pattern → Type 0
FitsWithin n theta p = IsSomeAnd (instance_of theta p) (λ (t : Tree). height t ≤ n)
