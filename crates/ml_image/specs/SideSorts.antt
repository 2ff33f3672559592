-- What the code reads from a side of a fact: the sorts of its variables.
use Rattle.std.specs.Prelude.{◌≡◌, ℕ, List}
use Rattle.term_core.specs.Patterns.{Pattern, injection}
use Rattle.rule_core.specs.declared.signature.Signature.{Signature}
use Rattle.ml_image.specs.Sides.{Head, Side, IsHead, IsSide, head_sorts, side_sorts, head_pattern}
use Rattle.ml_image.specs.Sides.{side_pattern}

-- the pattern is a head with its variables numbered from some number, and the variables have these
-- sorts
abbrev pub IsHeadPattern : Signature → Pattern → Type 0
IsHeadPattern sig p =
    (sort : ℕ) × (k : ℕ) × (h : Head) × IsHead sig sort h × (p ≡ head_pattern sort k h)

abbrev pub HasHeadSorts : Signature → Pattern → List ℕ → Type 0
HasHeadSorts sig p sorts =
    (sort k : ℕ) (h : Head) → IsHead sig sort h → p ≡ head_pattern sort k h → sorts ≡ head_sorts h

-- the same for the injection of the pattern from a sort
abbrev pub IsInjectedPattern : Signature → ℕ → Pattern → Type 0
IsInjectedPattern sig from p =
    (sort : ℕ) × (k : ℕ) × (s : Side) × IsSide sig sort s
    × (injection from sort p ≡ side_pattern sort k s)

abbrev pub HasInjectedSorts : Signature → ℕ → Pattern → List ℕ → Type 0
HasInjectedSorts sig from p sorts =
    (sort k : ℕ) (s : Side) → IsSide sig sort s → injection from sort p ≡ side_pattern sort k s
    → sorts ≡ side_sorts s

-- and for a side
abbrev pub IsSidePattern : Signature → Pattern → Type 0
IsSidePattern sig p =
    (sort : ℕ) × (k : ℕ) × (s : Side) × IsSide sig sort s × (p ≡ side_pattern sort k s)

abbrev pub HasSideSorts : Signature → Pattern → List ℕ → Type 0
HasSideSorts sig p sorts =
    (sort k : ℕ) (s : Side) → IsSide sig sort s → p ≡ side_pattern sort k s → sorts ≡ side_sorts s
