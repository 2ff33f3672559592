-- The spots of a hit.
use Rattle.std.proofs.Common.{◌≡◌, ◌≢◌, ℕ, Bool, List, [], ◌∷◌, length, Option, Some, None}
use Rattle.std.proofs.Common.{option_map, refl, sym, ◌∙◌, ap}
use Rattle.std.specs.Prelude.{◌&&◌}
use Rattle.term_core.specs.Terms.{Tree}
use Rattle.term_core.specs.Patterns.{Pattern}
use Rattle.term_core.specs.Instances.{patterns}
use Rattle.pat_matrix.specs.Collapsed.{AreCollapsed}
use Rattle.pat_matrix.specs.Positions.{subject_at}
use Rattle.pat_matrix.specs.MatchTrees.{Findings, IsFound}
use Rattle.pat_matrix.specs.Occurrences.{Place, tree_of_place, row_twins, same_trees, twins_agree}
use Rattle.match_tree.specs.Trails.{trail_of}
use Rattle.match_tree.specs.Spots.{Spot, lifted, spot_of, spots_of, tree_of_spot, spots_agree}
use Rattle.match_tree.specs.Spots.{AreSpotsThere, AreAskedTwins}
use Rattle.match_tree.specs.Walking.{AreTrue}
use Rattle.match_tree.proofs.ResolvedLaws.{places_are_resolved, twins_are_asked}
use Rattle.match_tree.proofs.TrialLaws.{TwinsThere, row_twins_there}
use Rattle.match_tree.proofs.WalkLaws.{found_row_agrees}

spot_there : (ts : List Tree) (spot : Spot) (t : Tree) (o : Option Tree)
    → subject_at ts spot.0 ≡ o → option_map (lifted spot.1) o ≡ Some t
    → subject_at ts spot.0 ≢ None
spot_there ts spot t None at is = absurd (let no : ⊥ = cc in no)
spot_there ts spot t (Some u) at is =
    λ none. let no : Some u ≡ None = sym at ∙ none in let never : ⊥ = cc in never

-- the spots are there, and agree if the twins do
pub twins_by_spots : (pairs : List (ℕ × ℕ)) (ts : List Tree) (found : Findings)
    (ps : List Pattern) (es : List (Place × Place)) → AreTrue ts found → IsFound pairs found ps
    → AreAskedTwins ps es → TwinsThere ts es
    → AreSpotsThere ts (spots_of (trail_of found) es)
    × (spots_agree ts (spots_of (trail_of found) es) ≡ twins_agree ts es)
twins_by_spots pairs ts found ps [] true_of whole asked there = (tt, refl)
twins_by_spots pairs ts found ps (e ∷ es) true_of whole (first, second, rest)
    (own, other, later) =
    let a = places_are_resolved pairs ts found ps e.0 own.0 true_of whole first own.1 in
    let b = places_are_resolved pairs ts found ps e.1 other.0 true_of whole second other.1 in
    let tail = twins_by_spots pairs ts found ps es true_of whole rest later in (
      (
        spot_there ts (spot_of (trail_of found) e.0) own.0 _ refl a,
        spot_there ts (spot_of (trail_of found) e.1) other.0 _ refl b,
        tail.0,
      ),
      ap (λ (o : Option Tree).
          same_trees o (tree_of_spot ts (spot_of (trail_of found) e.1))
          && spots_agree ts (spots_of (trail_of found) es)) (a ∙ sym own.1)
          ∙ ap (λ (o : Option Tree). same_trees (tree_of_place ts e.0) o
          && spots_agree ts (spots_of (trail_of found) es)) (b ∙ sym other.1)
          ∙ ap (λ (c : Bool). same_trees (tree_of_place ts e.0) (tree_of_place ts e.1) && c)
          tail.1,
    )

pub hit_spots : (pairs : List (ℕ × ℕ)) (ts : List Tree) (found : Findings) (ps : List Pattern)
    → AreTrue ts found → IsFound pairs found ps → AreCollapsed (patterns ps)
    → length ps ≡ length ts
    → AreSpotsThere ts (spots_of (trail_of found) (row_twins ps))
    × (spots_agree ts (spots_of (trail_of found) (row_twins ps)) ≡ twins_agree ts (row_twins ps))
hit_spots pairs ts found ps true_of whole collapsed count =
    twins_by_spots pairs ts found ps (row_twins ps) true_of whole (twins_are_asked ps)
    (row_twins_there pairs ps ts collapsed count
    (found_row_agrees pairs ts found ps true_of whole))
