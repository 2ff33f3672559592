-- The plain places that represent those of the code.
use Rattle.std.specs.Prelude.{List, map, option_map}
use Rattle.term_core.specs.declared.ids.SortId.{SortId}
use Rattle.pat_matrix.specs.Occurrences as plain
use Rattle.pat_matrix.specs.declared.places.Place.{Place}
use Rattle.pat_matrix.specs.declared.places.Twin.{Twin}
use Rattle.pat_matrix.specs.declared.places.Occurrence.{Occurrence}

abbrev pub place_of : Place → plain.Place
place_of p = (p.position.items, option_map (λ (s : SortId). s.0) p.under)

abbrev pub twins_of : List Twin → List (plain.Place × plain.Place)
twins_of es = map (λ (e : Twin). (place_of e.first, place_of e.second)) es

abbrev pub occurrence_of : Occurrence → plain.Occurrence
occurrence_of e = (e.var, place_of e.place)

abbrev pub occurrences_of : List Occurrence → List plain.Occurrence
occurrences_of es = map occurrence_of es
