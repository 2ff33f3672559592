-- What is kept of faults that are noted one by one: the first of them.
use Rattle.std.specs.Prelude.{Bool, ◌&&◌, ◌||◌, ◌==◌, List, [], ◌∷◌, Option, Some, None}
use Rattle.std.specs.Prelude.{if◌then◌else◌, nat_lt, nat_le}
use Rattle.std.specs.Option.{option_or}
use Rattle.kore_sig.specs.FirstFault.{Fault}

-- the tests of the two orders
abbrev pub leads_by_byte : Fault → Fault → Bool
leads_by_byte f g = nat_lt f.byte g.byte || ((f.byte == g.byte) && nat_le f.number g.number)

abbrev pub leads_by_number : Fault → Fault → Bool
leads_by_number f g = nat_lt f.number g.number || ((f.number == g.number) && nat_le f.byte g.byte)

-- the first of the fault that is kept and another one
abbrev pub kept : (Fault → Fault → Bool) → Option Fault → Fault → Option Fault
kept leads None g = Some g
kept leads (Some f) g = if leads f g then Some f else Some g

-- the first of the fault that is kept and others
abbrev pub noted : (Fault → Fault → Bool) → Option Fault → List Fault → Option Fault
noted leads r [] = r
noted leads r (f ∷ fs) = noted leads (kept leads r f) fs

-- the first fault of a set, by number
abbrev pub first_by_number : List Fault → Option Fault
first_by_number fs = noted leads_by_number None fs

-- the first fault of the first thing that has any, if F gives the faults of a thing
abbrev pub first_in : {S A : Type 0} → (S → A → List Fault) → (S → A → S) → S → List A
    → Option Fault
first_in F next s [] = None
first_in F next s (x ∷ xs) = option_or (first_by_number (F s x)) (first_in F next (next s x) xs)
