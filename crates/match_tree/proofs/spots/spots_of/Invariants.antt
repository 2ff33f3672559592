use Rattle.std.proofs.Common.{◌≡◌, take}
use Rattle.pat_matrix.specs.PlaceView.{twins_of}
use Rattle.match_tree.specs.Spots.{spots_of}
use Rattle.match_tree.specs.SpotView.{plain_spots}
use Rattle.match_tree.specs.TrailView.{plain_trail}
use Rattle.match_tree.proofs.spots.spots_of.Given as goal

abbrev pub invariant-loop-twin : goal.invariant-loop-twin
invariant-loop-twin l =
    plain_spots l.spots.items
    ≡ spots_of (plain_trail l.trail) (twins_of (take l.twin-index l.twins))
