-- The ends of a text, and the counts of its statements.
use Rattle.std.specs.Prelude.{ℕ, ◌+◌, List, Option, Some, None, Result, Ok, Err}
use Rattle.mm_text.specs.FaultKinds.{bad_keyword, bad_scope, fault}
use Rattle.mm_database.specs.Database.{Block}
use Rattle.mm_database.specs.Validity.{first_open}
use Rattle.mm_verify.specs.declared.ends.Report.{Report}
use Rattle.mm_verify.specs.declared.ends.Stated.{Stated}
use Rattle.mm_verify.specs.declared.ends.Stated.TheVariants as stated
use Rattle.mm_verify.specs.declared.ends.VerifyEnd.{VerifyEnd}
use Rattle.mm_verify.specs.declared.ends.VerifyEnd.TheVariants.{Invalid}

abbrev pub axioms_with : ℕ → Stated → ℕ
axioms_with n stated.Axiom = n + 1
axioms_with n stated.Theorem = n
axioms_with n stated.Nothing = n

abbrev pub theorems_with : ℕ → Stated → ℕ
theorems_with n stated.Axiom = n
theorems_with n stated.Theorem = n + 1
theorems_with n stated.Nothing = n

abbrev pub unended_at : ℕ → VerifyEnd
unended_at at = Invalid (fault bad_keyword at)

-- the end of a text: a fault at the outermost block that is still open, if there is one
abbrev pub end_at_open : Option ℕ → Report → Result Report VerifyEnd
end_at_open None report = Ok report
end_at_open (Some at) report = Err (Invalid (fault bad_scope at))

abbrev pub end_of_open : List Block → Report → Result Report VerifyEnd
end_of_open blocks report = end_at_open (first_open blocks) report
