-- The verdict of the code on a database, and its line.
use Rattle.std.specs.Prelude.{◌≡◌, ℕ, List, Option}
use Rattle.mm_text.specs.declared.fault.MmFault.{MmFault}
use Rattle.mm_database.specs.Validity.{IsValid, IsFirstFault}
use Rattle.mm_database.specs.Assertions.{axiom_count, theorem_count}
use Rattle.desk_io.specs.Told.{Told}
use Rattle.desk_io.specs.Sent.{Appends}
use Rattle.kore_prove.specs.declared.verification.Verdict.{Verdict}
use Rattle.kore_prove.specs.declared.verification.Verdict.TheVariants as verdict
use Rattle.kore_prove.specs.Limits.{HoldsWithin}
use Rattle.kore_prove.specs.Verdicts.{database_limit, valid_line, invalid_line, SendsValid}
use Rattle.kore_prove.specs.Verdicts.{SendsInvalid}

-- the bytes are not a valid database, and this is their first fault
pub record IsInvalidBy (bytes : List ℕ) (fault : MmFault) : Type 0 where
  pub not_valid : IsValid bytes → ⊥
  pub first : IsFirstFault bytes fault

-- the verdict is the one on these bytes
abbrev pub IsVerdictOn : List ℕ → Verdict → Type 0
IsVerdictOn bytes (verdict.Valid report) =
    IsValid bytes × (report.axioms ≡ axiom_count bytes) × (report.theorems ≡ theorem_count bytes)
IsVerdictOn bytes (verdict.Invalid fault) = IsInvalidBy bytes fault

abbrev pub verdict_line : Verdict → List ℕ
verdict_line (verdict.Valid report) = valid_line report.axioms report.theorems
verdict_line (verdict.Invalid fault) = invalid_line fault.kind fault.at

-- the exit code of a verdict
abbrev pub verdict_code : Verdict → ℕ
verdict_code (verdict.Valid report) = 0
verdict_code (verdict.Invalid fault) = 12

-- the verdict is the one on the file of that name
abbrev pub HoldsDatabase : Option Told → List ℕ → Verdict → Type 0
HoldsDatabase told name v =
    (bytes : List ℕ) × HoldsWithin told name database_limit bytes × IsVerdictOn bytes v

-- the output grew by the line of this verdict on the file, or by a part from its front
abbrev pub SendsVerdictOn : (Option (List ℕ) → Option (List ℕ) → List ℕ → Type 0) → List ℕ
    → Option Told → Option (List ℕ) → Option (List ℕ) → Verdict → Type 0
SendsVerdictOn Grew file told before after (verdict.Valid report) =
    SendsValid Grew told file before after
SendsVerdictOn Grew file told before after (verdict.Invalid fault) =
    SendsInvalid Grew told file before after

-- the output grew by the line of this verdict on the file
abbrev pub PrintsVerdictOn : List ℕ → Option Told → Option (List ℕ) → Option (List ℕ) → Verdict
    → Type 0
PrintsVerdictOn = SendsVerdictOn Appends
