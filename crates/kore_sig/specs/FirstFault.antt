-- The first of a set of faults in an order, and the first fault of things that come one after
-- another.
use Rattle.std.specs.Prelude.{◌≡◌, ◌<◌, ◌≤◌, ℕ, Bool, List, [], ◌∷◌, ◌++◌, ◌⊎◌, Option, Some, None}
use Rattle.std.specs.Prelude.{if◌then◌else◌}

-- a fault: the number of the refusal, and the byte of the text where the fault is
pub record Fault : Type 0 where
  pub number : ℕ
  pub byte : ℕ

-- a fault with this number at this byte if the test holds, else no fault
abbrev pub when : Bool → ℕ → ℕ → List Fault
when test number byte = if test then record { number = number; byte = byte } ∷ [] else []

-- a fault with this number at this byte if the test fails, else no fault
abbrev pub unless : Bool → ℕ → ℕ → List Fault
unless test number byte = if test then [] else record { number = number; byte = byte } ∷ []

-- the faults at this byte whose tests hold, each by its number
abbrev pub faults_of_tests : ℕ → List (Bool × ℕ) → List Fault
faults_of_tests at [] = []
faults_of_tests at (t ∷ tests) = when t.0 t.1 at ++ faults_of_tests at tests

-- an order of faults: by byte, and at the same byte by number
abbrev pub ByByte : Fault → Fault → Type 0
ByByte f g = (f.byte < g.byte) ⊎ ((f.byte ≡ g.byte) × (f.number ≤ g.number))

-- another order: by number, and for the same number by byte
abbrev pub ByNumber : Fault → Fault → Type 0
ByNumber f g = (f.number < g.number) ⊎ ((f.number ≡ g.number) × (f.byte ≤ g.byte))

-- the first of a set of faults in an order; None if the set is empty
abbrev pub IsFirstBy : (Fault → Fault → Type 0) → (Fault → Type 0) → Option Fault → Type 0
IsFirstBy Leads Has None = (f : Fault) → Has f → ⊥
IsFirstBy Leads Has (Some f) = Has f × ((g : Fault) → Has g → Leads f g)

-- the first fault of one stage, or of the next one if that stage has none
abbrev pub Then : (Option Fault → Type 0) → (Option Fault → Type 0) → Option Fault → Type 0
Then P Q None = P None × Q None
Then P Q (Some f) = P (Some f) ⊎ (P None × Q (Some f))

-- The first fault of the first thing that has any. R relates the state before a thing, the thing,
-- and its first fault. `next` gives the state after the thing.
abbrev pub IsFirstOfSequence : {S A : Type 0} → (S → A → Option Fault → Type 0) → (S → A → S) → S
    → List A → Option Fault → Type 0
IsFirstOfSequence R next s [] r = r ≡ None
IsFirstOfSequence R next s (x ∷ xs) r = Then (R s x) (IsFirstOfSequence R next (next s x) xs) r
