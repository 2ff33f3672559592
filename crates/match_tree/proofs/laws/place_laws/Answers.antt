use Rattle.match_tree.proofs.ResolvedLaws.{twins_are_asked, places_are_resolved}
use Rattle.match_tree.proofs.laws.place_laws.Goals as goal

pub returns-clause-asked : goal.returns-clause-asked
returns-clause-asked c = twins_are_asked

pub returns-clause-resolved : goal.returns-clause-resolved
returns-clause-resolved c = places_are_resolved
