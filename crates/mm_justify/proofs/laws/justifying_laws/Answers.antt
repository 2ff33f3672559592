use Rattle.mm_justify.proofs.Allowing.{axiom_has_only, run_is_justified, theorem_fits_anywhere}
use Rattle.mm_justify.proofs.Allowing.{theorem_has_only, theorem_justifies}
use Rattle.mm_justify.proofs.DeclaredStates.{declared_has_only}
use Rattle.mm_justify.proofs.HeaderStates.{header_has_only}
use Rattle.mm_justify.proofs.laws.justifying_laws.Goals as goal

pub returns-clause-header : goal.returns-clause-header
returns-clause-header a = header_has_only

pub returns-clause-declared : goal.returns-clause-declared
returns-clause-declared a = declared_has_only

pub returns-clause-axiomatic : goal.returns-clause-axiomatic
returns-clause-axiomatic a = axiom_has_only

pub returns-clause-theorem : goal.returns-clause-theorem
returns-clause-theorem a = theorem_has_only

pub returns-clause-justifies : goal.returns-clause-justifies
returns-clause-justifies a = theorem_justifies

pub returns-clause-run : goal.returns-clause-run
returns-clause-run a = run_is_justified

pub returns-clause-anywhere : goal.returns-clause-anywhere
returns-clause-anywhere a = theorem_fits_anywhere
