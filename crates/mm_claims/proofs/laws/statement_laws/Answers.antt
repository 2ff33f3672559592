use Rattle.mm_claims.proofs.OpenFits.{claims_are_valid, claims_are_compressed}
use Rattle.mm_claims.proofs.OpenFits.{header_fits_claims, axiom_fits}
use Rattle.mm_claims.proofs.OpenFits.{axiom_is_gained, theorem_fits, theorem_is_gained}
use Rattle.mm_claims.proofs.NamedClaims.{names_fit_claims}
use Rattle.mm_claims.proofs.laws.statement_laws.Goals as goal

pub returns-clause-valid : goal.returns-clause-valid
returns-clause-valid a = claims_are_valid

pub returns-clause-compressed : goal.returns-clause-compressed
returns-clause-compressed a = claims_are_compressed

pub returns-clause-header : goal.returns-clause-header
returns-clause-header a = header_fits_claims

pub returns-clause-names : goal.returns-clause-names
returns-clause-names a = names_fit_claims

pub returns-clause-axiomatic : goal.returns-clause-axiomatic
returns-clause-axiomatic a = axiom_fits

pub returns-clause-theorem : goal.returns-clause-theorem
returns-clause-theorem a = theorem_fits

pub returns-clause-gained : goal.returns-clause-gained
returns-clause-gained a = axiom_is_gained

pub returns-clause-proved : goal.returns-clause-proved
returns-clause-proved a = theorem_is_gained
