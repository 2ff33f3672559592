-- The leaves of the patterns that a derivation substitutes for the variables of rules.
use Rattle.std.specs.Prelude.{List, [], ◌∷◌}
use Rattle.ml_pat.specs.Leaves.{LeafFacts, EachLeaf}
use Rattle.ml_kernel.specs.Rules.{Instance, pattern, variable, sort}
use Rattle.ml_kernel.specs.Theorems.{Derivation, Derivations, hypothesis, own_axiom, by_rule, cited}
use Rattle.ml_kernel.specs.Theorems.{no_derivation, more_derivations}

-- each leaf of the instances of a rule's variables has its fact
abbrev pub EachInstance : LeafFacts → List Instance → Type 0
EachInstance f [] = Unit {0}
EachInstance f (pattern p ∷ is) = EachLeaf f p × EachInstance f is
EachInstance f (variable x ∷ is) = f.object x × EachInstance f is
EachInstance f (sort s ∷ is) = f.sort s × EachInstance f is

-- the same for each rule of a derivation
abbrev mutual
  pub EachUsed : LeafFacts → Derivation → Type 0
  EachUsed f (hypothesis p) = Unit {0}
  EachUsed f (own_axiom n p new) = Unit {0}
  EachUsed f (by_rule r is ds) = EachInstance f is × AllUsed f ds
  EachUsed f (cited own q d ms ds) = AllUsed f ds

  pub AllUsed : LeafFacts → Derivations → Type 0
  AllUsed f no_derivation = Unit {0}
  AllUsed f (more_derivations d ds) = EachUsed f d × AllUsed f ds
