-- What a variable stands for at a hit, by what the tests have found. No term is looked at again:
-- the source sort of an injection is in the head that was found.
use Rattle.std.specs.Prelude.{◌≡◌, ◌≢◌, ◌==◌, ◌&&◌, ◌++◌, ℕ, Bool, true, List, [], ◌∷◌, map, Option}
use Rattle.std.specs.Prelude.{Some, None, option_map, if◌then◌else◌}
use Rattle.term_core.specs.Terms.{Tree, inj}
use Rattle.term_core.specs.Patterns.{Pattern}
use Rattle.pat_matrix.specs.Positions.{row_asks, subject_at}
use Rattle.pat_matrix.specs.MatchTrees.{Findings, IsFound}
use Rattle.pat_matrix.specs.Occurrences.{Place, tree_of_place, row_twins, same_trees}
use Rattle.match_tree.specs.Trails.{Trail, trail_of, source_at}
use Rattle.match_tree.specs.Walking.{AreTrue}

-- the term at a position, or its injection from one sort to another
abbrev pub Spot : Type 0
Spot = List ℕ × Option (ℕ × ℕ)

-- how the child of an injection from this sort becomes a term of the sort b
abbrev pub lift_from : ℕ → Option ℕ → Option (ℕ × ℕ)
lift_from b None = None
lift_from b (Some a) = if a == b then None else Some (a, b)

-- what a variable at the place stands for
abbrev pub spot_of : Trail → Place → Spot
spot_of trail (position, None) = (position, None)
spot_of trail (position, Some b) =
    (position ++ 0 ∷ [], lift_from b (source_at trail position))

abbrev pub spots_of : Trail → List (Place × Place) → List (Spot × Spot)
spots_of trail es =
    map (λ (e : Place × Place). (spot_of trail e.0, spot_of trail e.1)) es

abbrev pub lifted : Option (ℕ × ℕ) → Tree → Tree
lifted None t = t
lifted (Some e) t = inj e.0 e.1 t

abbrev pub tree_of_spot : List Tree → Spot → Option Tree
tree_of_spot ts spot = option_map (lifted spot.1) (subject_at ts spot.0)

-- the position of each spot is there
abbrev pub AreSpotsThere : List Tree → List (Spot × Spot) → Type 0
AreSpotsThere ts [] = Unit {0}
AreSpotsThere ts (e ∷ spots) =
    (subject_at ts e.0.0 ≢ None) × (subject_at ts e.1.0 ≢ None) × AreSpotsThere ts spots

-- both spots of each pair have one term
abbrev pub spots_agree : List Tree → List (Spot × Spot) → Bool
spots_agree ts [] = true
spots_agree ts (e ∷ spots) =
    same_trees (tree_of_spot ts e.0) (tree_of_spot ts e.1) && spots_agree ts spots

-- the row asks the position of the injection that a variable is under
abbrev pub IsAskedPlace : List Pattern → Place → Type 0
IsAskedPlace ps (position, None) = Unit {0}
IsAskedPlace ps (position, Some b) = (q : Pattern) × (row_asks ps position ≡ Some q)

abbrev pub AreAskedTwins : List Pattern → List (Place × Place) → Type 0
AreAskedTwins ps [] = Unit {0}
AreAskedTwins ps (e ∷ es) = IsAskedPlace ps e.0 × IsAskedPlace ps e.1 × AreAskedTwins ps es

-- The places of a row's twins are asked.
abbrev pub TwinsAreAsked : Type 0
TwinsAreAsked = (ps : List Pattern) → AreAskedTwins ps (row_twins ps)

-- If every head of the row was found, what a variable stands for is known by what was found.
abbrev pub PlacesAreResolved : Type 0
PlacesAreResolved =
    (pairs : List (ℕ × ℕ)) (ts : List Tree) (found : Findings) (ps : List Pattern) (place : Place)
    (t : Tree) → AreTrue ts found → IsFound pairs found ps → IsAskedPlace ps place →
    tree_of_place ts place ≡ Some t → tree_of_spot ts (spot_of (trail_of found) place) ≡ Some t
