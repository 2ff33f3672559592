-- The forms of the equalities that derived rules take and return.
use Rattle.std.specs.Prelude.{◌≡◌, ℕ, Some}
use Rattle.ml_pat.specs.Patterns.{Pattern, equal, app}
use Rattle.ml_pat.specs.Judgements.{substituted}
use Rattle.ml_kernel.specs.Lemmas.{HasNoVariable}

-- the object variable that marks a place in a context
abbrev pub hole : ℕ
hole = 0

-- `given` is the context with one side of an equality for x, and the other side can be substituted
-- there
abbrev pub CanCarry : Pattern → Pattern → ℕ → Pattern → Type 0
CanCarry e context x given =
    (p : Pattern) × ((q : Pattern) × ((made : Pattern) ×
    ((e ≡ equal p q)
    × ((substituted context x p ≡ Some given) × (substituted context x q ≡ Some made)))))

-- the context with the other side of the equality for x
abbrev pub IsCarried : Pattern → Pattern → ℕ → Pattern → Type 0
IsCarried e context x made = (p q : Pattern) → e ≡ equal p q → substituted context x q ≡ Some made

-- an equality whose first side has no object variable
abbrev pub IsFromClosed : Pattern → Type 0
IsFromClosed e = (p : Pattern) × ((q : Pattern) × ((e ≡ equal p q) × HasNoVariable p))

-- the same equality with its sides exchanged
abbrev pub IsFlip : Pattern → Pattern → Type 0
IsFlip e flipped = (p q : Pattern) → e ≡ equal p q → flipped ≡ equal q p

-- two equalities such that the second side of the first is the first side of the second; the first
-- side of the first has no object variable
abbrev pub AreJoinable : Pattern → Pattern → Type 0
AreJoinable first second =
    (p : Pattern)
    × ((q : Pattern)
    × ((r : Pattern) × ((first ≡ equal p q) × ((second ≡ equal q r) × HasNoVariable p))))

-- the equality between the first side of the first and the second side of the second
abbrev pub IsJoin : Pattern → Pattern → Pattern → Type 0
IsJoin first second joined =
    (p q r : Pattern) → first ≡ equal p q → second ≡ equal q r → joined ≡ equal p r

-- two equalities in which only the second sides may have object variables
abbrev pub AreApplicable : Pattern → Pattern → Type 0
AreApplicable f a =
    (p : Pattern) × ((q : Pattern) × ((r : Pattern) × ((t : Pattern) ×
    ((f ≡ equal p q)
    × ((a ≡ equal r t) × (HasNoVariable p × (HasNoVariable q × HasNoVariable r)))))))

-- the equality between the first sides, applied, and the second sides, applied
abbrev pub IsApplied : Pattern → Pattern → Pattern → Type 0
IsApplied f a applied =
    (p q r t : Pattern) → f ≡ equal p q → a ≡ equal r t → applied ≡ equal (app p r) (app q t)

-- the equality with each side applied to r
abbrev pub IsAppliedTo : Pattern → Pattern → Pattern → Type 0
IsAppliedTo f r applied = (p q : Pattern) → f ≡ equal p q → applied ≡ equal (app p r) (app q r)

-- the equality with p applied to each side
abbrev pub IsArgument : Pattern → Pattern → Pattern → Type 0
IsArgument p a applied = (r t : Pattern) → a ≡ equal r t → applied ≡ equal (app p r) (app p t)
