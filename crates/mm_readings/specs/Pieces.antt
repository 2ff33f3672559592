-- The pieces of a statement, words, patterns and sorts; how they are spelled in letters, and how
-- they are read back.
use Rattle.std.specs.Prelude.{ℕ, List, [], ◌∷◌}
use Rattle.ml_pat.specs.Patterns.{Unary, Binary, Sorted, Quantifier, Pattern, nullary, unary}
use Rattle.ml_pat.specs.Patterns.{binary, sorted, quantified, var, meta, constant}
use Rattle.mm_readings.specs.Letters.{Word, Letter, opening, closing, nullary_letter, unary_letter}
use Rattle.mm_readings.specs.Letters.{binary_letter, sorted_letter, quantifier_letter}
use Rattle.mm_readings.specs.Letters.{object_letter, meta_letter, constant_letter, sort_letter}
use Rattle.mm_readings.specs.Letters.{word_letter}

pub data Piece : Type 0 where
  word_piece : Word → Piece
  pattern_piece : Pattern → Piece
  sort_piece : ℕ → Piece

-- the letters of a pattern, in front of other letters
abbrev pub spell : Pattern → List Letter → List Letter
spell (nullary c) rest = nullary_letter c ∷ rest
spell (unary c p) rest = opening ∷ (unary_letter c ∷ spell p (closing ∷ rest))
spell (binary c p q) rest = opening ∷ (binary_letter c ∷ spell p (spell q (closing ∷ rest)))
spell (sorted c p s) rest =
    opening ∷ (sorted_letter c ∷ spell p (sort_letter s ∷ (closing ∷ rest)))
spell (quantified c x s p) rest =
    opening ∷ (quantifier_letter c ∷ (object_letter x ∷ (sort_letter s ∷ spell p (closing ∷ rest))))
spell (var x) rest = object_letter x ∷ rest
spell (meta i) rest = meta_letter i ∷ rest
spell (constant c) rest = constant_letter c ∷ rest

abbrev pub spell_all : List Piece → List Letter
spell_all [] = []
spell_all (word_piece w ∷ pieces) = word_letter w ∷ spell_all pieces
spell_all (pattern_piece p ∷ pieces) = spell p (spell_all pieces)
spell_all (sort_piece s ∷ pieces) = sort_letter s ∷ spell_all pieces

-- ---- reading back, from the last letter on: a letter takes pieces off those behind it, and puts
-- one in front of the others; brackets are passed over

abbrev pub read_unary : Unary → List Piece → List Piece
read_unary c (pattern_piece p ∷ pieces) = pattern_piece (unary c p) ∷ pieces
read_unary c pieces = []

abbrev pub read_binary : Binary → List Piece → List Piece
read_binary c (pattern_piece p ∷ (pattern_piece q ∷ pieces)) = pattern_piece (binary c p q) ∷ pieces
read_binary c pieces = []

abbrev pub read_sorted : Sorted → List Piece → List Piece
read_sorted c (pattern_piece p ∷ (sort_piece s ∷ pieces)) = pattern_piece (sorted c p s) ∷ pieces
read_sorted c pieces = []

abbrev pub read_quantifier : Quantifier → List Piece → List Piece
read_quantifier c (pattern_piece (var x) ∷ (sort_piece s ∷ (pattern_piece p ∷ pieces))) =
    pattern_piece (quantified c x s p) ∷ pieces
read_quantifier c pieces = []

abbrev pub read_letter : Letter → List Piece → List Piece
read_letter opening pieces = pieces
read_letter closing pieces = pieces
read_letter (nullary_letter c) pieces = pattern_piece (nullary c) ∷ pieces
read_letter (unary_letter c) pieces = read_unary c pieces
read_letter (binary_letter c) pieces = read_binary c pieces
read_letter (sorted_letter c) pieces = read_sorted c pieces
read_letter (quantifier_letter c) pieces = read_quantifier c pieces
read_letter (object_letter x) pieces = pattern_piece (var x) ∷ pieces
read_letter (meta_letter i) pieces = pattern_piece (meta i) ∷ pieces
read_letter (constant_letter c) pieces = pattern_piece (constant c) ∷ pieces
read_letter (sort_letter s) pieces = sort_piece s ∷ pieces
read_letter (word_letter w) pieces = word_piece w ∷ pieces

abbrev pub read : List Letter → List Piece
read [] = []
read (letter ∷ letters) = read_letter letter (read letters)
