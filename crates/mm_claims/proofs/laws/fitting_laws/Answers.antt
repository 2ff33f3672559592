use Rattle.mm_claims.proofs.KeepingLaws.{empty_fits, fits_is_compressed, begun_fits}
use Rattle.mm_claims.proofs.KeepingLaws.{declared_fits}
use Rattle.mm_claims.proofs.laws.fitting_laws.Goals as goal

pub returns-clause-empty : goal.returns-clause-empty
returns-clause-empty a = empty_fits

pub returns-clause-compressed : goal.returns-clause-compressed
returns-clause-compressed a = fits_is_compressed

pub returns-clause-begun : goal.returns-clause-begun
returns-clause-begun a = begun_fits

pub returns-clause-declared : goal.returns-clause-declared
returns-clause-declared a = declared_fits
