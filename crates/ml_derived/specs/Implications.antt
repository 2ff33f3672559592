-- The forms of the implications that derived rules take and return.
use Rattle.std.specs.Prelude.{◌≡◌}
use Rattle.ml_pat.specs.Patterns.{Pattern, top, imp, and, next, ev}

-- two implications such that the second side of the first is the first side of the second
abbrev pub AreLinked : Pattern → Pattern → Type 0
AreLinked first second =
    (p : Pattern) × ((q : Pattern) × ((r : Pattern) × ((first ≡ imp p q) × (second ≡ imp q r))))

-- the implication from the first side of the first to the second side of the second
abbrev pub IsChain : Pattern → Pattern → Pattern → Type 0
IsChain first second whole =
    (p q r : Pattern) → first ≡ imp p q → second ≡ imp q r → whole ≡ imp p r

-- `a -> ev b` and `b -> next c`
abbrev pub IsOneStepOn : Pattern → Pattern → Type 0
IsOneStepOn sofar step = (a : Pattern)
    × ((b : Pattern) × ((c : Pattern) × ((sofar ≡ imp a (ev b)) × (step ≡ imp b (next c)))))

-- `a -> ev c`, from `a -> ev b` and `b -> next c`
abbrev pub ReachesOneFurther : Pattern → Pattern → Pattern → Type 0
ReachesOneFurther sofar step whole =
    (a b c : Pattern) → sofar ≡ imp a (ev b) → step ≡ imp b (next c) → whole ≡ imp a (ev c)

-- `p & c -> q`
abbrev pub HasCondition : Pattern → Pattern → Type 0
HasCondition c rule = (p : Pattern) × ((q : Pattern) × (rule ≡ imp (and p c) q))

-- the rule without its condition c
abbrev pub IsFreedOf : Pattern → Pattern → Pattern → Type 0
IsFreedOf c rule freed = (p q : Pattern) → rule ≡ imp (and p c) q → freed ≡ imp p q

-- `p & top -> q`
abbrev pub HasTopCondition : Pattern → Type 0
HasTopCondition = HasCondition top

abbrev pub IsFreed : Pattern → Pattern → Type 0
IsFreed = IsFreedOf top
