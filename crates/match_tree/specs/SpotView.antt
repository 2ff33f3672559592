-- The plain spots that represent those of the code.
use Rattle.std.specs.Prelude.{ℕ, List, map, option_map}
use Rattle.term_core.specs.declared.ids.SortId.{SortId}
use Rattle.match_tree.specs.Spots as plain
use Rattle.match_tree.specs.declared.spots.Spot.{Spot}
use Rattle.match_tree.specs.declared.spots.SpotTwin.{SpotTwin}

abbrev pub lift_numbers : SortId × SortId → ℕ × ℕ
lift_numbers e = (e.0.0, e.1.0)

abbrev pub plain_spot : Spot → plain.Spot
plain_spot spot = (spot.position.items, option_map lift_numbers spot.lift)

abbrev pub plain_spots : List SpotTwin → List (plain.Spot × plain.Spot)
plain_spots spots = map (λ (e : SpotTwin). (plain_spot e.first, plain_spot e.second)) spots
