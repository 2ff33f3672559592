-- The places of lemmas that a `LemmaPlaces` of the code has as its model.
use Rattle.std.specs.Prelude.{ℕ, List}
use Rattle.prove_fun.specs.declared.lemma_places.LemmaPlaces.TheInside.{Inside}

abbrev pub places_of : Inside → List ((ℕ × ℕ) × ℕ)
places_of a = a.places.entries
