-- Derivability in matching logic (Rosu 2017; Chen and Rosu 2019). A derivation is a finite tree.
-- Its leaves are hypotheses and axioms. The bound variables of an axiom may be renamed. The other
-- nodes are instances of the rules. A theory may have infinitely many axioms.
use Rattle.std.specs.Prelude.{List, [], ◌∷◌, Contains}
use Rattle.ml_pat.specs.Patterns.{Pattern}
use Rattle.ml_kernel.specs.Rules.{Instance, Infers}
use Rattle.ml_kernel.specs.Renamings.{IsRenaming}
use Rattle.ml_kernel.specs.declared.rules.Rule.{Rule}

mutual
  pub data Derives (hypotheses : List Pattern) (IsAxiom : Pattern → Type 0) : Pattern → Type 0 where
    by_hypothesis : (p : Pattern) → Contains hypotheses p → Derives hypotheses IsAxiom p
    by_axiom : (p : Pattern) → IsAxiom p → Derives hypotheses IsAxiom p
    by_renaming : (p q : Pattern) → IsAxiom p → IsRenaming p q → Derives hypotheses IsAxiom q
    by_rule : (r : Rule) (is : List Instance) (ps : List Pattern) (q : Pattern) → Infers r is ps q
        → AllDerive hypotheses IsAxiom ps → Derives hypotheses IsAxiom q

  -- each of these patterns has a derivation
  pub data AllDerive (hypotheses : List Pattern) (IsAxiom : Pattern → Type 0) : List Pattern
      → Type 0 where
    none_left : AllDerive hypotheses IsAxiom []
    one_more : (p : Pattern) (ps : List Pattern) → Derives hypotheses IsAxiom p
        → AllDerive hypotheses IsAxiom ps → AllDerive hypotheses IsAxiom (p ∷ ps)
