-- The last theorem of a run, cited as it stands.
use Rattle.ml_kernel.specs.Theorems.{Theorem}
use Rattle.ml_derived.specs.Scopes.{Scope, IsOver, IsStatedIn, IsWithin}

-- each scope that has the last theorem as stated, and the leaves of what it says, has the theorem t
abbrev pub CitesLast : Theorem → Theorem → Type 0
CitesLast last t =
    (s : Scope) → IsStatedIn s last.hypotheses last.conclusion → IsOver s last.conclusion
    → IsWithin s t
