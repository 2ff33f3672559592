-- The fault for which a text is refused.
use Rattle.std.specs.Prelude.{Option, Some}
use Rattle.kore_sig.specs.FirstFault.{Fault}
use Rattle.kore_axioms.specs.declared.refusals.Refusal.{Refusal}
use Rattle.kore_axioms.specs.declared.refusals.Refusal.TheVariants.{Refused, Memory}

-- P holds of the fault; out of memory claims nothing
abbrev pub Refuses : (Option Fault → Type 0) → Refusal → Type 0
Refuses P (Refused number byte) = P (Some (record { number = number; byte = byte }))
Refuses P Memory = Unit {0}
