-- The hooks on whole numbers and truth values (K framework, "domains.md"): the value of each at its
-- arguments. Whole numbers are mathematical integers. Those of a program are in the range from
-- -2^127 to 2^127 - 1, so the result of a hook must be in it.
use Rattle.std.specs.Prelude.{ℕ, ◌-◌, ◌^◌, ℤ, pos, negsuc, ◌+ℤ◌, ◌-ℤ◌, ◌*ℤ◌, int_lt, int_le}
use Rattle.std.specs.Prelude.{int_div, int_rem, unsigned_abs, bit_and, bit_or, bit_xor, Bool, not}
use Rattle.std.specs.Prelude.{◌&&◌, ◌||◌, if◌then◌else◌, List, [], ◌∷◌, Option, Some, None, Result}
use Rattle.std.specs.Prelude.{Ok, Err, codes, slice_get}
use Rattle.std.specs.Int.{int_min, int_max, int_div_euclid, int_rem_euclid}
use Rattle.std.specs.Ordering.{int_eq}
use Rattle.term_core.specs.Terms.{DomainValue, integer, truth}
use Rattle.term_core.specs.declared.values.NoValue.{NoValue}
use Rattle.term_core.specs.declared.values.NoValue.TheVariants.{ZeroDivisor, NegativeShift, Range}

-- ---- whole numbers

-- the number is in the range
abbrev pub is_in_range : ℤ → Bool
is_in_range z = int_le (pos 0 -ℤ pos (2 ^ 127)) z && int_lt z (pos (2 ^ 127))

-- the number, if it is in the range
abbrev pub in_range : ℤ → Result ℤ NoValue
in_range z = if is_in_range z then Ok z else Err Range

-- the result of a division, by the divisor
abbrev pub unless_zero : ℤ → Result ℤ NoValue → Result ℤ NoValue
unless_zero y r = if int_eq y (pos 0) then Err ZeroDivisor else r

-- the result of a shift, by the distance
abbrev pub unless_negative : ℤ → Result ℤ NoValue → Result ℤ NoValue
unless_negative y r = if int_lt y (pos 0) then Err NegativeShift else r

-- -z - 1, which is z in two's complement with each bit inverted
abbrev pub complement : ℤ → ℤ
complement (pos n) = negsuc n
complement (negsuc n) = pos n

-- the bits of m that n lacks
abbrev pub bits_without : ℕ → ℕ → ℕ
bits_without m n = m - bit_and m n

-- In infinite two's complement, the bits of n are its binary digits. The bits of -n - 1 are the
-- same digits, each inverted.
abbrev pub bitwise_and : ℤ → ℤ → ℤ
bitwise_and (pos m) (pos n) = pos (bit_and m n)
bitwise_and (pos m) (negsuc n) = pos (bits_without m n)
bitwise_and (negsuc m) (pos n) = pos (bits_without n m)
bitwise_and (negsuc m) (negsuc n) = negsuc (bit_or m n)

abbrev pub bitwise_or : ℤ → ℤ → ℤ
bitwise_or x y = complement (bitwise_and (complement x) (complement y))

abbrev pub bitwise_xor : ℤ → ℤ → ℤ
bitwise_xor (pos m) (pos n) = pos (bit_xor m n)
bitwise_xor (pos m) (negsuc n) = negsuc (bit_xor m n)
bitwise_xor (negsuc m) (pos n) = negsuc (bit_xor m n)
bitwise_xor (negsuc m) (negsuc n) = pos (bit_xor m n)

-- ---- the table

-- what a hook does, by the kinds of its arguments and of its result
pub data Operation : Type 0 where
  on_integer : (ℤ → Result ℤ NoValue) → Operation
  on_integers : (ℤ → ℤ → Result ℤ NoValue) → Operation
  compares : (ℤ → ℤ → Bool) → Operation
  on_truth : (Bool → Bool) → Operation
  on_truths : (Bool → Bool → Bool) → Operation

-- a hook: its name, by its bytes, and what it does
pub record Hook : Type 0 where
  pub name : List ℕ
  pub operation : Operation

abbrev hook : List ℕ → Operation → Hook
hook name operation = record { name = name; operation = operation }

-- The hooks, in order. The number of a hook is its position here. `INT.tdiv` rounds the quotient
-- towards zero. `INT.ediv` has the quotient whose remainder is not negative. For a power of two, as
-- in `INT.shr`, that is the quotient rounded down.
abbrev pub hooks : List Hook
hooks =
    hook (codes "INT.add") (on_integers (λ x y. in_range (x +ℤ y)))
    ∷ hook (codes "INT.sub") (on_integers (λ x y. in_range (x -ℤ y)))
    ∷ hook (codes "INT.mul") (on_integers (λ x y. in_range (x *ℤ y)))
    ∷ hook (codes "INT.tdiv") (on_integers (λ x y. unless_zero y (in_range (int_div x y))))
    ∷ hook (codes "INT.tmod") (on_integers (λ x y. unless_zero y (Ok (int_rem x y))))
    ∷ hook (codes "INT.ediv") (on_integers (λ x y. unless_zero y (in_range (int_div_euclid x y))))
    ∷ hook (codes "INT.emod") (on_integers (λ x y. unless_zero y (Ok (int_rem_euclid x y))))
    ∷ hook (codes "INT.eq") (compares int_eq)
    ∷ hook (codes "INT.ne") (compares (λ x y. not (int_eq x y)))
    ∷ hook (codes "INT.lt") (compares int_lt)
    ∷ hook (codes "INT.le") (compares int_le)
    ∷ hook (codes "INT.gt") (compares (λ x y. int_lt y x))
    ∷ hook (codes "INT.ge") (compares (λ x y. int_le y x))
    ∷ hook (codes "INT.min") (on_integers (λ x y. Ok (int_min x y)))
    ∷ hook (codes "INT.max") (on_integers (λ x y. Ok (int_max x y)))
    ∷ hook (codes "INT.abs") (on_integer (λ x. in_range (pos (unsigned_abs x))))
    ∷ hook (codes "INT.and") (on_integers (λ x y. Ok (bitwise_and x y)))
    ∷ hook (codes "INT.or") (on_integers (λ x y. Ok (bitwise_or x y)))
    ∷ hook (codes "INT.xor") (on_integers (λ x y. Ok (bitwise_xor x y)))
    ∷ hook (codes "INT.not") (on_integer (λ x. Ok (complement x)))
    ∷ hook (codes "INT.shl")
    (on_integers (λ x y. unless_negative y (in_range (x *ℤ pos (2 ^ unsigned_abs y)))))
    ∷ hook (codes "INT.shr")
    (on_integers (λ x y. unless_negative y (Ok (int_div_euclid x (pos (2 ^ unsigned_abs y))))))
    ∷ hook (codes "BOOL.and") (on_truths (λ a b. a && b))
    ∷ hook (codes "BOOL.or") (on_truths (λ a b. a || b))
    ∷ hook (codes "BOOL.xor") (on_truths (λ a b. if a then not b else b))
    ∷ hook (codes "BOOL.implies") (on_truths (λ a b. not a || b))
    ∷ hook (codes "BOOL.not") (on_truth not)
    ∷ hook (codes "BOOL.eq") (on_truths (λ a b. if a then b else not b))
    ∷ hook (codes "BOOL.ne") (on_truths (λ a b. if a then not b else b))
    ∷ hook (codes "BOOL.andThen") (on_truths (λ a b. a && b))
    ∷ hook (codes "BOOL.orElse") (on_truths (λ a b. a || b))
    ∷ []

-- ---- the kinds of a hook

pub data Kind : Type 0 where
  integers : Kind
  truths : Kind

abbrev pub argument_kinds : Operation → List Kind
argument_kinds (on_integer f) = integers ∷ []
argument_kinds (on_integers f) = integers ∷ (integers ∷ [])
argument_kinds (compares f) = integers ∷ (integers ∷ [])
argument_kinds (on_truth f) = truths ∷ []
argument_kinds (on_truths f) = truths ∷ (truths ∷ [])

abbrev pub result_kind : Operation → Kind
result_kind (on_integer f) = integers
result_kind (on_integers f) = integers
result_kind (compares f) = truths
result_kind (on_truth f) = truths
result_kind (on_truths f) = truths

-- ---- the value of a hook

abbrev pub outcome : {A : Type 0} → (A → DomainValue) → Result A NoValue
    → Result DomainValue NoValue
outcome make (Ok a) = Ok (make a)
outcome make (Err reason) = Err reason

-- the result of an operation, if its arguments are of its kinds
abbrev pub operation_value : Operation → List DomainValue → Option (Result DomainValue NoValue)
operation_value (on_integer f) (integer x ∷ []) = Some (outcome integer (f x))
operation_value (on_integers f) (integer x ∷ (integer y ∷ [])) = Some (outcome integer (f x y))
operation_value (compares f) (integer x ∷ (integer y ∷ [])) = Some (Ok (truth (f x y)))
operation_value (on_truth f) (truth a ∷ []) = Some (Ok (truth (f a)))
operation_value (on_truths f) (truth a ∷ (truth b ∷ [])) = Some (Ok (truth (f a b)))
operation_value operation arguments = None

-- the same for a hook that may be missing
abbrev pub value_by : Option Hook → List DomainValue → Option (Result DomainValue NoValue)
value_by None arguments = None
value_by (Some h) arguments = operation_value h.operation arguments

-- The value of the hook with this number, or the reason why it has no value. It is None if no hook
-- has the number or if the arguments are not of its kinds.
abbrev pub hook_value : ℕ → List DomainValue → Option (Result DomainValue NoValue)
hook_value number arguments = value_by (slice_get hooks number) arguments
