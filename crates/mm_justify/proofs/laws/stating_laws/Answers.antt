use Rattle.mm_justify.proofs.StatedFrames.{names_are_names, claims_are_holds}
use Rattle.mm_justify.proofs.laws.stating_laws.Goals as goal

pub returns-clause-names : goal.returns-clause-names
returns-clause-names a = names_are_names

pub returns-clause-claims : goal.returns-clause-claims
returns-clause-claims a = claims_are_holds
