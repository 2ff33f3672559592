-- The fault of a sort that is not declared, by its byte.
use Rattle.std.specs.Prelude.{ℕ, Option, option_map}
use Rattle.kore_sig.specs.FirstFault.{Fault}

abbrev pub unknown_sort_at : Option ℕ → Option Fault
unknown_sort_at first = option_map (λ (byte : ℕ). record { number = 6; byte = byte }) first
