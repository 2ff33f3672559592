-- The byte that is kept of those that were noted, as a fault.
use Rattle.std.specs.Prelude.{ℕ, List, Option, option_map}
use Rattle.kore_sig.specs.FirstFault.{Fault}
use Rattle.kore_sig.specs.Noted.{noted, leads_by_byte}

abbrev pub not_ground_at : Option ℕ → Option Fault
not_ground_at first = option_map (λ (at : ℕ). record { number = 26; byte = at }) first

abbrev pub behind : Option ℕ → List Fault → Option Fault
behind first faults = noted leads_by_byte (not_ground_at first) faults
