use Rattle.mm_frame.proofs.NamedSteps.{citation_is_named}
use Rattle.mm_frame.proofs.laws.number_laws.Goals as goal

pub returns : goal.returns
returns a = record { cited = citation_is_named }
