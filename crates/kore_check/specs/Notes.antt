-- The fault that is kept of those that were noted.
use Rattle.std.specs.Prelude.{ℕ, List, Option, option_map}
use Rattle.kore_sig.specs.FirstFault.{Fault}
use Rattle.kore_sig.specs.Noted.{noted, leads_by_byte}
use Rattle.term_core.specs.declared.ids.SortId.{SortId}
use Rattle.kore_check.specs.declared.faults.PatternFault.{PatternFault}
use Rattle.kore_check.specs.FaultNumbers.{plain_fault}

abbrev pub kept_fault : Option PatternFault → Option Fault
kept_fault first = option_map plain_fault first

-- the fault that is kept after these faults are noted too
abbrev pub after : Option PatternFault → List Fault → Option Fault
after first faults = noted leads_by_byte (kept_fault first) faults

abbrev pub sort_no : SortId → ℕ
sort_no s = s.0
