use Rattle.desk_io.proofs.Told.{Same-keeps}
use Rattle.desk_io.proofs.read.read_more.Goals as goal

pub returns-in-Err-clause-files : goal.returns-in-Err-clause-files
returns-in-Err-clause-files g c = Same-keeps _ _ c.in-Err.ensures.fault
