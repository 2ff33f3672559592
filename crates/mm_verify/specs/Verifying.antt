-- The verdict on a database, from its computed fault.
use Rattle.std.specs.Prelude.{◌≡◌, ℕ, List, Some, None, Result, Ok, Err}
use Rattle.mm_database.specs.Assertions.{axiom_count, theorem_count}
use Rattle.mm_verify.specs.declared.ends.Report.{Report}
use Rattle.mm_verify.specs.declared.ends.VerifyEnd.{VerifyEnd}
use Rattle.mm_verify.specs.declared.ends.VerifyEnd.TheVariants.{Invalid, Memory}
use Rattle.mm_database.specs.ComputedFault.{first_fault}

abbrev pub Finds : List ℕ → Result Report VerifyEnd → Type 0
Finds bytes (Ok r) =
    (first_fault bytes ≡ None) × (r.axioms ≡ axiom_count bytes) × (r.theorems ≡ theorem_count bytes)
Finds bytes (Err (Invalid f)) = first_fault bytes ≡ Some f
Finds bytes (Err Memory) = Unit {0}
