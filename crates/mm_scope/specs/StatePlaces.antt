-- The places of the hypotheses that a frame takes. Only clauses of private functions cite these
-- definitions.
use Rattle.std.specs.Prelude.{ℕ, if◌then◌else◌, List, [], ◌∷◌, slice_index, Option, Some, None}
use Rattle.mm_frame.specs.Numbered.{NumberedHypothesis}
use Rattle.mm_scope.specs.Sharing.{ArePlacedIn}
use Rattle.mm_scope.specs.ScopeState.{ScopeState}
use Rattle.mm_scope.specs.StateTests.{is_typed_in}
use Rattle.mm_database.specs.Frames.{floating, essential}

-- the symbols of the `$e` at a place
abbrev pub premise_at : Option NumberedHypothesis → List ℕ
premise_at None = []
premise_at (Some (floating label typecode variable)) = []
premise_at (Some (essential label statement)) = statement

-- each active `$f` is at the place that is kept for its variable
abbrev pub ArePlaced : ScopeState → Type 0
ArePlaced h = ArePlacedIn h.types h.hypotheses

-- the places of the active `$f` of these variables
abbrev pub typed_places : ScopeState → List ℕ → List ℕ
typed_places h [] = []
typed_places h (n ∷ numbers) = if is_typed_in h n
    then slice_index h.types n ∷ typed_places h numbers
    else typed_places h numbers
