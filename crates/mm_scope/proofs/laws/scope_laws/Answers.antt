use Rattle.mm_scope.proofs.StandSteps.{naming_exists, place_stands, hypothesis_stands, frame_cited}
use Rattle.mm_scope.proofs.StandSteps.{nothing_cited}
use Rattle.mm_scope.proofs.laws.scope_laws.Goals as goal

pub returns-clause-naming : goal.returns-clause-naming
returns-clause-naming a = naming_exists

pub returns-clause-place : goal.returns-clause-place
returns-clause-place a = place_stands

pub returns-clause-hypothesis : goal.returns-clause-hypothesis
returns-clause-hypothesis a = hypothesis_stands

pub returns-clause-frame : goal.returns-clause-frame
returns-clause-frame a = frame_cited

pub returns-clause-nothing : goal.returns-clause-nothing
returns-clause-nothing a = nothing_cited
