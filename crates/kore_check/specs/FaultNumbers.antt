-- The numbers of the faults of patterns, and which fault is the first.
use Rattle.std.specs.Prelude.{ℕ, List, Option, Some, option_map, Contains}
use Rattle.kore_sig.specs.FirstFault.{Fault, ByByte, IsFirstBy}
use Rattle.kore_check.specs.declared.faults.FaultKind.{FaultKind}
use Rattle.kore_check.specs.declared.faults.FaultKind.TheVariants as kind
use Rattle.kore_check.specs.declared.faults.PatternFault.{PatternFault}
use Rattle.kore_check.specs.declared.faults.CheckFault.{CheckFault}
use Rattle.kore_check.specs.declared.faults.CheckFault.TheVariants as answer

-- the number of the refusal for this kind of fault
abbrev pub fault_number : FaultKind → ℕ
fault_number kind.Deep = 3
fault_number kind.UnknownSort = 6
fault_number kind.UnknownSymbol = 7
fault_number kind.Arity = 8
fault_number kind.SortClash = 9
fault_number kind.BadValue = 11
fault_number kind.NoKind = 25

abbrev pub plain_fault : PatternFault → Fault
plain_fault f = record { number = fault_number f.kind; byte = f.at }

-- The fault that is kept is the first of these by byte. At the same byte it is the one with the
-- smallest number. None is kept if there are no faults.
abbrev pub IsFirstOf : List Fault → Option PatternFault → Type 0
IsFirstOf faults first = IsFirstBy ByByte (Contains faults) (option_map plain_fault first)

-- the fault as the error of a check
abbrev pub refusal_of : FaultKind → ℕ → CheckFault
refusal_of kind.Deep at = answer.Deep at
refusal_of kind.UnknownSort at = answer.UnknownSort at
refusal_of kind.UnknownSymbol at = answer.UnknownSymbol at
refusal_of kind.Arity at = answer.Arity at
refusal_of kind.SortClash at = answer.SortClash at
refusal_of kind.BadValue at = answer.BadValue at
refusal_of kind.NoKind at = answer.NoKind at

abbrev pub as_refusal : PatternFault → CheckFault
as_refusal f = refusal_of f.kind f.at

-- the error is the first of these faults, or that memory ran out
abbrev pub IsRefusal : List Fault → CheckFault → Type 0
IsRefusal faults (answer.Deep at) =
    IsFirstBy ByByte (Contains faults) (Some (record { number = 3; byte = at }))
IsRefusal faults (answer.UnknownSort at) =
    IsFirstBy ByByte (Contains faults) (Some (record { number = 6; byte = at }))
IsRefusal faults (answer.UnknownSymbol at)
    = IsFirstBy ByByte (Contains faults) (Some (record { number = 7; byte = at }))
IsRefusal faults (answer.Arity at) =
    IsFirstBy ByByte (Contains faults) (Some (record { number = 8; byte = at }))
IsRefusal faults (answer.SortClash at) =
    IsFirstBy ByByte (Contains faults) (Some (record { number = 9; byte = at }))
IsRefusal faults (answer.BadValue at) =
    IsFirstBy ByByte (Contains faults) (Some (record { number = 11; byte = at }))
IsRefusal faults (answer.NoKind at) =
    IsFirstBy ByByte (Contains faults) (Some (record { number = 25; byte = at }))
IsRefusal faults answer.Memory = Unit {0}
