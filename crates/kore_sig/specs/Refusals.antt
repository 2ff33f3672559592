-- The number and the byte of the error for a definition without a signature.
use Rattle.std.specs.Prelude.{ℕ, Option, Some}
use Rattle.kore_text.specs.Trees.{DefinitionTree}
use Rattle.kore_sig.specs.FirstFault.{Fault}
use Rattle.kore_sig.specs.SignatureFaults.{FirstOfSignature}
use Rattle.kore_sig.specs.declared.faults.SigFault.{SigFault}
use Rattle.kore_sig.specs.declared.faults.SigFault.TheVariants.{Import, Duplicate, UnknownSort}
use Rattle.kore_sig.specs.declared.faults.SigFault.TheVariants.{Arity, SortParameter, SubsortCycle}
use Rattle.kore_sig.specs.declared.faults.SigFault.TheVariants.{Memory}

abbrev pub fault_at : ℕ → ℕ → Option Fault
fault_at number byte = Some (record { number = number; byte = byte })

-- P holds for the fault of the error; nothing is said if memory ran out
abbrev pub Refuses : (Option Fault → Type 0) → SigFault → Type 0
Refuses P (Import at) = P (fault_at 4 at)
Refuses P (Duplicate at) = P (fault_at 5 at)
Refuses P (UnknownSort at) = P (fault_at 6 at)
Refuses P (Arity at) = P (fault_at 8 at)
Refuses P (SortParameter at) = P (fault_at 10 at)
Refuses P (SubsortCycle at) = P (fault_at 24 at)
Refuses P Memory = Unit {0}

-- the error is the first fault of the definition
abbrev pub IsRefusal : DefinitionTree → SigFault → Type 0
IsRefusal definition fault = Refuses (FirstOfSignature definition) fault
