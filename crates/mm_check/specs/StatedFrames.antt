-- When what was read of an assertion, by tokens and by numbers, is what its frame says.
use Rattle.std.specs.Prelude.{◌≡◌, ℕ, Bool, true, map, slice_get, Some}
use Rattle.mm_text.specs.Bytes.{Token}
use Rattle.mm_database.specs.Frames.{Frame}
use Rattle.mm_frame.specs.Numbered.{IsNaming}
use Rattle.mm_justify.specs.Justifying.{premises_in, typecode_in}
use Rattle.mm_check.specs.Stated.{PlainTyped, PlainStated}
use Rattle.mm_check.specs.RowTexts.{type_among, occurs}

-- The statement, the premises and the types are those of the frame. The numbers stand for the
-- tokens. Each variable that has a type occurs, and has one type only. Which of these variables
-- have to stay apart is known by their numbers.
pub record IsStated (pairs : ℕ → ℕ → Bool) (s : PlainStated) (f : Frame) : Type 0 where
  pub name : ℕ → Token
  pub naming : IsNaming name
  pub statement : f.statement ≡ s.words
  pub numbers : s.words ≡ map name s.numbers
  pub premises : premises_in f.hypotheses ≡ s.premises
  pub types : (v : Token) → typecode_in f.hypotheses v ≡ type_among s.types v
  pub named : (k : ℕ) (t : PlainTyped) → slice_get s.types k ≡ Some t → t.variable ≡ name t.number
  pub occurring : (k : ℕ) (t : PlainTyped) → slice_get s.types k ≡ Some t
      → occurs s t.variable ≡ true
  pub first : (k : ℕ) (t : PlainTyped) → slice_get s.types k ≡ Some t
      → type_among s.types t.variable ≡ Some t.typecode
  pub apart : (k j : ℕ) (t u : PlainTyped) → slice_get s.types k ≡ Some t
      → slice_get s.types j ≡ Some u
      → f.apart t.variable u.variable ≡ pairs t.number u.number
