-- The numbers that letters of a compressed proof spell, read and written.
use Rattle.std.specs.Prelude.{◌≡◌, ℕ, List, ◌++◌, Some}
use Rattle.mm_text.specs.Compressed.{number_of}

-- the new list is the old list and then letters that spell this number
abbrev pub Spells : ℕ → List ℕ → List ℕ → Type 0
Spells n old new = (letters : List ℕ) × (new ≡ old ++ letters) × (number_of letters ≡ Some n)
