-- What tests have found on the way to a place, as far as the code keeps it: each position that was
-- tested, with the source sort if an injection was found there.
use Rattle.std.specs.Prelude.{ℕ, Bool, List, [], ◌∷◌, Option, Some, None, map, if◌then◌else◌}
use Rattle.std.specs.List.{list_any}
use Rattle.std.specs.Str.{bytes_eq}
use Rattle.pat_matrix.specs.Heads.{PlainHead, of_value, of_constructor, of_injection}
use Rattle.pat_matrix.specs.MatchTrees.{Findings}

abbrev pub Trail : Type 0
Trail = List (List ℕ × Option ℕ)

-- the source sort of the injection that was found
abbrev pub source_of : Option PlainHead → Option ℕ
source_of None = None
source_of (Some (of_value s v)) = None
source_of (Some (of_constructor f n)) = None
source_of (Some (of_injection a b)) = Some a

abbrev pub trail_of : Findings → Trail
trail_of found = map (λ (e : List ℕ × Option PlainHead). (e.0, source_of e.1)) found

abbrev pub was_tested : Trail → List ℕ → Bool
was_tested trail position =
    list_any (λ (e : List ℕ × Option ℕ). bytes_eq e.0 position) trail

-- the first of the positions that was not tested
abbrev pub first_untested : Trail → List (List ℕ) → Option (List ℕ)
first_untested trail [] = None
first_untested trail (position ∷ positions) =
    if was_tested trail position then first_untested trail positions else Some position

-- the source sort of the injection that was found at a position
abbrev pub source_at : Trail → List ℕ → Option ℕ
source_at [] position = None
source_at ((place, None) ∷ trail) position = source_at trail position
source_at ((place, Some a) ∷ trail) position =
    if bytes_eq place position then Some a else source_at trail position
