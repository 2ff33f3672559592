use Rattle.std.proofs.Common.{◌≡◌, drop}
use Rattle.match_tree.specs.Spots.{spots_agree, AreSpotsThere}
use Rattle.match_tree.specs.SpotView.{plain_spots}
use Rattle.match_tree.proofs.spots.spots_agree.Given as goal

abbrev pub invariant-loop-twin : goal.invariant-loop-twin
invariant-loop-twin l = record {
  there : AreSpotsThere l.subjects (plain_spots (drop l.twin-index l.spots));
  agree : spots_agree l.subjects (plain_spots (drop l.twin-index l.spots))
      ≡ spots_agree l.subjects (plain_spots l.spots);
}
