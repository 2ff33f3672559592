use Rattle.mm_claims.proofs.LaterLaws.{fits_later, all_declared, closed_stays, last_is_stated}
use Rattle.mm_claims.proofs.LaterLaws.{stated_stays}
use Rattle.mm_claims.proofs.laws.later_laws.Goals as goal

pub returns-clause-fits : goal.returns-clause-fits
returns-clause-fits a = fits_later

pub returns-clause-all : goal.returns-clause-all
returns-clause-all a = all_declared

pub returns-clause-closed : goal.returns-clause-closed
returns-clause-closed a = closed_stays

pub returns-clause-stated : goal.returns-clause-stated
returns-clause-stated a = stated_stays

pub returns-clause-last : goal.returns-clause-last
returns-clause-last a = last_is_stated
