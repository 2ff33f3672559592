-- Values of hooks on small numbers and at the ends of the range, by computation.
use Rattle.std.proofs.Common.{◌≡◌, refl}
use Rattle.std.specs.Prelude.{ℕ, ◌^◌, ℤ, pos, neg_ℤ, true, false, List, [], ◌∷◌, Option, Some, None}
use Rattle.std.specs.Prelude.{Result, Ok, Err, map}
use Rattle.term_core.specs.Terms.{DomainValue, integer, truth}
use Rattle.term_core.specs.HookValues.{hook_value}
use Rattle.term_core.specs.declared.values.NoValue.{NoValue}
use Rattle.term_core.specs.declared.values.NoValue.TheVariants.{ZeroDivisor, NegativeShift, Range}

-- the value of the hook with this number, at whole numbers
on : ℕ → List ℤ → Option (Result DomainValue NoValue)
on number arguments = hook_value number (map integer arguments)

-- a whole number as the value
is : ℤ → Option (Result DomainValue NoValue)
is z = Some (Ok (integer z))

least : ℤ
least = neg_ℤ (pos (2 ^ 127))

-- -7 is -2 * 3 - 1, and also -3 * 3 + 2
quotients : (on 3 (neg_ℤ (pos 7) ∷ (pos 3 ∷ [])) ≡ is (neg_ℤ (pos 2)))
    × (on 4 (neg_ℤ (pos 7) ∷ (pos 3 ∷ [])) ≡ is (neg_ℤ (pos 1)))
    × (on 5 (neg_ℤ (pos 7) ∷ (pos 3 ∷ [])) ≡ is (neg_ℤ (pos 3)))
    × (on 6 (neg_ℤ (pos 7) ∷ (pos 3 ∷ [])) ≡ is (pos 2))
unfolding on is
quotients = (refl, refl, refl, refl)

-- 7 is -2 * -3 + 1, and -7 is 3 * -3 + 2
negative_divisors : (on 5 (pos 7 ∷ (neg_ℤ (pos 3) ∷ [])) ≡ is (neg_ℤ (pos 2)))
    × (on 6 (pos 7 ∷ (neg_ℤ (pos 3) ∷ [])) ≡ is (pos 1))
    × (on 5 (neg_ℤ (pos 7) ∷ (neg_ℤ (pos 3) ∷ [])) ≡ is (pos 3))
    × (on 6 (neg_ℤ (pos 7) ∷ (neg_ℤ (pos 3) ∷ [])) ≡ is (pos 2))
unfolding on is
negative_divisors = (refl, refl, refl, refl)

-- -4 ends in the bits 1100, and 6 in 0110
bits : (on 16 (neg_ℤ (pos 4) ∷ (pos 6 ∷ [])) ≡ is (pos 4))
    × (on 17 (neg_ℤ (pos 4) ∷ (pos 6 ∷ [])) ≡ is (neg_ℤ (pos 2)))
    × (on 18 (neg_ℤ (pos 4) ∷ (pos 6 ∷ [])) ≡ is (neg_ℤ (pos 6)))
    × (on 19 (pos 6 ∷ []) ≡ is (neg_ℤ (pos 7)))
unfolding on is
bits = (refl, refl, refl, refl)

-- -2^127 is in the range, and 2^127 is not
shifts : (on 20 (neg_ℤ (pos 1) ∷ (pos 127 ∷ [])) ≡ is least)
    × (on 20 (pos 1 ∷ (pos 127 ∷ [])) ≡ Some (Err Range))
    × (on 21 (neg_ℤ (pos 7) ∷ (pos 1 ∷ [])) ≡ is (neg_ℤ (pos 4)))
    × (on 21 (pos 7 ∷ (neg_ℤ (pos 1) ∷ [])) ≡ Some (Err NegativeShift))
unfolding on is least
shifts = (refl, refl, refl, refl)

ends : (on 3 (least ∷ (neg_ℤ (pos 1) ∷ [])) ≡ Some (Err Range))
    × (on 4 (least ∷ (neg_ℤ (pos 1) ∷ [])) ≡ is (pos 0)) × (on 15 (least ∷ []) ≡ Some (Err Range))
    × (on 6 (least ∷ (pos 0 ∷ [])) ≡ Some (Err ZeroDivisor))
unfolding on is least
ends = (refl, refl, refl, refl)

-- there is no value if the arguments are not of the hook's kinds (a truth value instead of a whole
-- number, or an argument too few), or if no hook has the number
misfits : (hook_value 0 (truth true ∷ (truth false ∷ [])) ≡ None) × (on 0 (pos 1 ∷ []) ≡ None)
    × (on 31 (pos 1 ∷ (pos 1 ∷ [])) ≡ None)
    × (hook_value 25 (truth true ∷ (truth false ∷ [])) ≡ Some (Ok (truth false)))
unfolding on
misfits = (refl, refl, refl, refl)
