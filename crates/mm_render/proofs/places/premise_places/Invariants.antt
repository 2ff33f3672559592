use Rattle.std.proofs.Common.{take}
use Rattle.mm_claims.specs.CitedAt.{ArePremises}
use Rattle.mm_render.specs.KeyPlaces.{premise_place_by}
use Rattle.mm_render.specs.PlaceTable.{found_in}
use Rattle.mm_render.proofs.places.premise_places.Given as goal

abbrev pub invariant-loop-no : goal.invariant-loop-no
invariant-loop-no l = ArePremises (take l.no l.hypotheses) (premise_place_by (found_in l.places))
