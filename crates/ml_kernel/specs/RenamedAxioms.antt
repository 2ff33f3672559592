-- The axioms of a theory, cited with new numbers of their bound variables.
use Rattle.std.specs.Prelude.{◌≡◌, ℕ, List, slice_get, Some}
use Rattle.ml_pat.specs.Patterns.{Pattern}
use Rattle.ml_kernel.specs.Renamings.{renamed, Renames, by_place}
use Rattle.ml_kernel.specs.Theorems.{Theorem, own_axiom}

-- the axiom with this number may have these new numbers, by place
abbrev pub MayRename : List Pattern → ℕ → List ℕ → Type 0
MayRename axioms n new =
    (p : Pattern) → slice_get axioms n ≡ Some p → Renames (by_place new) p (renamed (by_place new) p)

-- the theorem is the axiom with these new numbers
pub record IsAxiomAs (axioms : List Pattern) (n : ℕ) (new : List ℕ) (t : Theorem) : Type 0 where
  pub pattern : Pattern
  pub there : slice_get axioms n ≡ Some pattern
  pub conclusion : t.conclusion ≡ renamed (by_place new) pattern
  pub derivation : t.derivation ≡ own_axiom n pattern new
